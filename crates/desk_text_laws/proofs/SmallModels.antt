-- The models of a desk have no more equations and no more unknowns than it was told bytes.
use Rattle.std.proofs.Common.{◌≡◌, ℕ, zero, suc, ◌+◌, ◌≤◌, Bool, List, [], ◌∷◌, length, map, drop, take, inl, inr, refl, ap, sym, subst, arith}
use Rattle.std.proofs.Common.{length-append, length-drop, length-take}
use Rattle.std.specs.List.{remove}
use Rattle.std.proofs.lemmas.List.{length-map}
use Rattle.std.proofs.lemmas.List.Elements.{All-nil}
use Rattle.residue_theory.specs.Sets.{everything}
use Rattle.residue_theory.proofs.CountLaws.{size-everything}
use Rattle.residue_theory.proofs.SumLaws.{nat_cases, size_on-within}
use Rattle.mixed_matrices.specs.Layerings.{AreMembers}
use Rattle.mixed_matrices.specs.Models.{MixedMatrix}
use Rattle.mixed_matrices.specs.StructuralRanks.{IsStructuralRank}
use Rattle.mixed_model.specs.Entries.{RowEntry}
use Rattle.mixed_model.specs.Layers.{Layers}
use Rattle.mixed_model.specs.Models.{IsModel, MixedModel, empty_model}
use Rattle.mixed_model.specs.Rows.{AreColumnsBelow, IsRow}
use Rattle.mixed_model.proofs.NameLaws.{no_names}
use Rattle.mixed_layering.specs.Layers.{AreLayersOf}
use Rattle.term_model.proofs.TextCounts.{seen-few, words-few}
use Rattle.matrix_reader.specs.Items.{unknown_of}
use Rattle.model_edits.specs.Edits.{HasEquationMore, IsEditOf}
use Rattle.edit_desk.specs.Desks.{IsChangedBy, IsReply, empty_models, model_at}
use Rattle.edit_desk.specs.declared.reply.Reply.{Reply}
use Rattle.edit_desk.specs.declared.reply.Reply.TheVariants.{Changed, Nothing, Parts, Refused}
use Rattle.desk_texts.specs.Rooms.{columns_said}

-- a model that has at most n equations and unknowns once so many bytes more are read
pub record IsSmall (p n left : ℕ) (model : MixedModel) : Type 0 where
  pub is_model : IsModel p model
  pub equations : length model.equations + left ≤ n
  pub unknowns : length model.unknowns + left ≤ n

-- the same of all models of a desk
abbrev pub AreSmall : ℕ → ℕ → ℕ → List MixedModel → Type 0
AreSmall p n left models = (k : ℕ) → IsSmall p n left (model_at models k)

less-small : (p n left less : ℕ) (model : MixedModel) → less ≤ left → IsSmall p n left model → IsSmall p n less model
less-small p n left less model few small = record {
  is_model = small.is_model;
  equations = omega (arith, small.equations, few);
  unknowns = omega (arith, small.unknowns, few);
}

-- the models at first
empty-model : (p : ℕ) → IsModel p empty_model
empty-model p = record {
  equations = no_names;
  unknowns = no_names;
  one_row_each = refl;
  rows = All-nil (λ (row : List RowEntry). IsRow p row × AreColumnsBelow 0 row);
}

empty-at : (count k : ℕ) → model_at (empty_models count) k ≡ empty_model
empty-at zero k = refl
empty-at (suc count) zero = refl
empty-at (suc count) (suc k) = empty-at count k

pub empty-small : (p n left count : ℕ) → left ≤ n → AreSmall p n left (empty_models count)
empty-small p n left count few k = subst (IsSmall p n left) (sym (empty-at count k))
    (record { is_model = empty-model p; equations = omega (arith, few); unknowns = omega (arith, few) })

-- an edit adds at most one equation, and no more unknowns than it has words
pub record GrowsBy (old new : MixedModel) (words : ℕ) : Type 0 where
  pub equations : length new.equations ≤ length old.equations + 1
  pub unknowns : length new.unknowns ≤ length old.unknowns + words

remove-short : (names : List (List ℕ)) (k : ℕ) → length (remove names k) ≤ length names
remove-short names k = omega (
  arith,
  length-append (take k names) (drop (suc k) names),
  length-take k names,
  length-drop (suc k) names,
)

module _ (p : ℕ) (old new : MixedModel) where
  added-grows : (name : List ℕ) (items : List (List ℕ)) → HasEquationMore p old new name items → GrowsBy old new (length items)
  added-grows name items more = record {
    equations = omega (arith, ap (λ names. length names) more.equations, length-append old.equations (name ∷ []));
    unknowns = omega (
      arith,
      ap (λ names. length names) more.unknowns,
      seen-few old.unknowns (map unknown_of items),
      length-map items unknown_of,
    );
  }

  edit-grows : (word : List ℕ) (words : List (List ℕ)) → IsEditOf p word words old new → GrowsBy old new (length words)
  edit-grows word [] edit = absurd edit
  edit-grows word (name ∷ items) (inl (first, more)) = let grows = added-grows name items more in record {
    equations = grows.equations;
    unknowns = omega (arith, grows.unknowns);
  }
  edit-grows word (name ∷ items) (inr (inl (first, none, gone))) = record {
    equations = omega (arith, ap (λ (model : MixedModel). length model.equations) gone.dropped, remove-short old.equations gone.equation);
    unknowns = omega (arith, ap (λ (model : MixedModel). length model.unknowns) gone.dropped);
  }
  edit-grows word (name ∷ items) (inr (inr (inl (first, (item, is_words, sets))))) = record {
    equations = omega (arith, ap (λ names. length names) sets.set.set.equations);
    unknowns = omega (arith, ap (λ names. length names) sets.set.set.unknowns, seen-few old.unknowns (unknown_of item ∷ []));
  }
  edit-grows word (name ∷ items) (inr (inr (inr (first, (unknown, is_words, clears))))) = record {
    equations = omega (arith, ap (λ names. length names) clears.cleared.equations);
    unknowns = omega (arith, ap (λ names. length names) clears.cleared.unknowns);
  }

-- and a line has a byte for each of its words
module _ (p n left : ℕ) (old : List MixedModel) (line : List ℕ) (small : AreSmall p n (length line + left) old) where
  kept-small : (next : List MixedModel) → next ≡ old → AreSmall p n left next
  kept-small next same k = less-small p n (length line + left) left (model_at next k) (omega arith)
      (subst (λ models. IsSmall p n (length line + left) (model_at models k)) (sym same) (small k))

  changed-small : (next : List MixedModel) (rank : ℕ) → IsChangedBy p old line next rank → AreSmall p n left next
  changed-small next rank changed k = elim (nat_cases k changed.model) [
    | inl here ↦ subst (λ i. IsSmall p n left (model_at next i)) (sym here) (subst (IsSmall p n left) (sym changed.replaced.here) now)
    | inr other ↦ less-small p n (length line + left) left (model_at next k) (omega arith)
        (subst (IsSmall p n (length line + left)) (sym (changed.replaced.others k other)) (small k))
  ]
    where
      now : IsSmall p n left changed.changed
      now =
          let grows = edit-grows p (model_at old changed.model) changed.changed changed.word changed.words changed.edited.edit in
          let before = small changed.model in
          let many : length changed.words + 2 ≤ length line =
          omega (arith, words-few line, ap (λ words. length words) changed.names.words_are) in
          record {
            is_model = changed.edited.is_model;
            equations = omega (arith, grows.equations, before.equations, many);
            unknowns = omega (arith, grows.unknowns, before.unknowns, many);
          }

  pub reply-small : (next : List MixedModel) (reply : Reply) → IsReply p old line next reply → AreSmall p n left next
  reply-small next Nothing (clean, none, same) = kept-small next same
  reply-small next (Refused why) (broken, same) = kept-small next same
  reply-small next (Changed rank) changed = changed-small next rank changed
  reply-small next (Parts rank parts) (asked, same) = kept-small next same

-- members of a set below n are at most n
members-few : (A : ℕ → Bool) (n : ℕ) (at : ℕ → ℕ) (m : ℕ) → AreMembers A n at m → m ≤ n
members-few A n at m are = omega (arith, are.count, size-everything n, size_on-within everything A n (λ j jl h. refl))

-- the layered matrix of a small model
pub columns-few : (p n left : ℕ) (model : MixedModel) (layers : Layers) → IsSmall p n left model → AreLayersOf model layers →
    layers.q.width ≤ columns_said n
columns-few p n left model layers small are =
    let e : length model.equations ≤ 4096 = small.is_model.equations.few in
    let u : length model.unknowns ≤ 4096 = small.is_model.unknowns.few in
    let s : length are.split ≤ length model.equations = members-few _ _ _ _ are.layered.auxiliary in
    let c : layers.q.width ≡ length model.unknowns + length are.split = are.layered.columns in
    omega (arith, small.equations, small.unknowns, e, u, s, c)

-- a rank is at most the number of columns
pub rank-few : (p : ℕ) (M : MixedMatrix) (rank : ℕ) → IsStructuralRank p M rank → rank ≤ M.columns
rank-few p M rank is = omega (
  arith,
  is.reached.1.reached.3,
  size-everything M.columns,
  size_on-within everything is.reached.1.reached.0 M.columns (λ j jl h. refl),
)
