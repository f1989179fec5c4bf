-- Each edit that is not refused leaves a model.
use Rattle.std.proofs.Common.{◌≡◌, ℕ, ◌<◌, ◌≤◌, ◌⊎◌, ◌||◌, Bool, true, false, cond, nat_eq, nat_le, List, [], ◌∷◌, length, codes}
use Rattle.std.proofs.Common.{position, None, Some, Ok, inl, inr, refl, sym, subst, arith, ◌+◌, eqb-true, leb-true}
use Rattle.std.specs.Str.{bytes_eq}
use Rattle.std.proofs.lemmas.Slice.Eq.{bytes_eq-Decides}
use Rattle.refusals.specs.declared.Why.TheVariants.{BadShape, BadWord}
use Rattle.residue_theory.specs.Residues.{IsPrime}
use Rattle.line_reader.proofs.Deciding.{both_kept, wanted}
use Rattle.mixed_model.specs.Models.{IsModel, MixedModel, equation_removed, with_seen_unknown}
use Rattle.mixed_model.specs.Names.{IsNameList, see, seeing}
use Rattle.mixed_model.proofs.ModelLaws.{IsModel-equation_removed}
use Rattle.mixed_model.proofs.NameLaws.{has_name-Some}
use Rattle.matrix_reader.specs.Items.{item_constant, item_symbol, unknown_of, unless_zero}
use Rattle.matrix_reader.specs.Rules.{room_rule, term_rule}
use Rattle.model_edits.specs.Commands.{command_shape_rule, edit_rule, items_rule, model_number_rule, there_rule, unknowns_rule, unless_kept}
use Rattle.model_edits.proofs.SeenLaws.{seen_below}
use Rattle.desk_existence_laws.specs.Laws.{EachEditHasAModel, HasEdit}
use Rattle.desk_existence_laws.proofs.AddedModels.{add-edit}
use Rattle.desk_existence_laws.proofs.KeptNames.{constant-below, found, item-named, one-item, see-kept, seen-at, seen-more}
use Rattle.desk_existence_laws.proofs.PlacedModels.{HasSet, no_value, place_set, residue-value}

-- ---- which command a word is, by how many words follow
abbrev pub IsCommand : List ℕ → ℕ → Type 0
IsCommand word count =
    ((word ≡ codes "add") × (2 ≤ count)) ⊎ ((word ≡ codes "drop") × (count ≡ 2)) ⊎ ((word ≡ codes "set") × (count ≡ 3))
    ⊎ ((word ≡ codes "clear") × (count ≡ 3)) ⊎ ((word ≡ codes "ask") × (count ≡ 1))

pub command-is : (word : List ℕ) (count : ℕ) → command_shape_rule word count ≡ None → IsCommand word count
command-is word count kept = by (bytes_eq word (codes "add")) refl (bytes_eq word (codes "drop")) refl (bytes_eq word (codes "set")) refl
    (bytes_eq word (codes "clear")) refl (bytes_eq word (codes "ask")) refl kept
  where
    same : (text : List ℕ) → bytes_eq word text ≡ true → word ≡ text
    same text e = (bytes_eq-Decides word text).0 e

    by : (a : Bool) → bytes_eq word (codes "add") ≡ a → (d : Bool) → bytes_eq word (codes "drop") ≡ d → (s : Bool) → bytes_eq word (codes "set") ≡ s →
        (c : Bool) → bytes_eq word (codes "clear") ≡ c → (k : Bool) → bytes_eq word (codes "ask") ≡ k →
        cond a (unless_kept (nat_le 2 count) BadShape) (cond d (unless_kept (nat_eq count 2) BadShape)
        (cond (s || c) (unless_kept (nat_eq count 3) BadShape) (cond k (unless_kept (nat_eq count 1) BadShape) (Some BadWord)))) ≡ None → IsCommand word count
    by true e d _ s _ c _ k _ h = inl (same (codes "add") e, leb-true 2 count (wanted (nat_le 2 count) BadShape h))
    by false _ true e s _ c _ k _ h = inr (inl (same (codes "drop") e, eqb-true count 2 (wanted (nat_eq count 2) BadShape h)))
    by false _ false _ true e c _ k _ h = inr (inr (inl (same (codes "set") e, eqb-true count 3 (wanted (nat_eq count 3) BadShape h))))
    by false _ false _ false _ true e k _ h = inr (inr (inr (inl (same (codes "clear") e, eqb-true count 3 (wanted (nat_eq count 3) BadShape h)))))
    by false _ false _ false _ false _ true e h = inr (inr (inr (inr (same (codes "ask") e, eqb-true count 1 (wanted (nat_eq count 1) BadShape h)))))
    by false _ false _ false _ false _ false _ h = absurd cc

-- a model with an unknown that is seen
seen-model : (p : ℕ) (old : MixedModel) (name : List ℕ) → IsModel p old → IsNameList (see old.unknowns name) → IsModel p (with_seen_unknown old name)
seen-model p old name is named = record {
  equations = is.equations;
  unknowns = named;
  one_row_each = is.one_row_each;
  rows = λ k d kl. ((is.rows k d kl).0, λ l e ll. omega (arith, (is.rows k d kl).1 l e ll, seen-more old.unknowns (name ∷ [])));
}

-- ---- each command
module _ (p : ℕ) (prime : IsPrime p) (old : MixedModel) (is : IsModel p old) (name : List ℕ) where
  equation-at : there_rule old.equations name ≡ None → (k : ℕ) × (position (bytes_eq name) old.equations ≡ Some k) × (k < length old.equations)
  equation-at kept = let at = found old.equations name kept in (at.0, at.1, (has_name-Some old.equations name at.0 at.1).0)

  drop-edit : edit_rule p (codes "drop") old (name ∷ []) ≡ None → HasEdit p (codes "drop") (name ∷ []) old
  drop-edit kept = from (equation-at (both_kept (there_rule old.equations name) (unknowns_rule old []) kept).0)
    where
      from : (k : ℕ) × (position (bytes_eq name) old.equations ≡ Some k) × (k < length old.equations) → HasEdit p (codes "drop") (name ∷ []) old
      from (k, at, kl) = record {
        new = equation_removed old k;
        edit = inr (inl (refl, refl, record { equation = k; found = at; dropped = refl }));
        is_model = IsModel-equation_removed p old k is kl;
      }

  set-edit : (item : List ℕ) → edit_rule p (codes "set") old (name ∷ item ∷ []) ≡ None → HasEdit p (codes "set") (name ∷ item ∷ []) old
  set-edit item kept =
      let first = both_kept (there_rule old.equations name) (items_rule p old (item ∷ [])) kept in
      let rules = one-item p old item first.1 in
      from rules.0 rules.1 (equation-at first.0) (seen-at old.unknowns (unknown_of item) rules.1)
    where
      from : term_rule p item ≡ None → room_rule old.unknowns (unknown_of item) ≡ None →
          (k : ℕ) × (position (bytes_eq name) old.equations ≡ Some k) × (k < length old.equations) →
          (j : ℕ) × (seeing old.unknowns (unknown_of item) ≡ Ok j) → HasEdit p (codes "set") (name ∷ item ∷ []) old
      from term room (k, at, kl) (j, seen) = record {
        new = set.new;
        edit = inr (inr (inl (refl, (item, refl, record { equation = k; found = at; set = record { unknown = j; seen = seen; set = set.sets } }))));
        is_model = set.is_model;
      }
        where
          set : HasSet p (with_seen_unknown old (unknown_of item)) k j (unless_zero (item_constant p item)) (item_symbol item)
          set = place_set p (omega (arith, prime.above_one)) (with_seen_unknown old (unknown_of item))
              (seen-model p old (unknown_of item) is (see-kept old.unknowns (unknown_of item) is.unknowns (item-named p item term) room)) k j kl
              (seen_below old.unknowns (unknown_of item) j seen) (unless_zero (item_constant p item)) (item_symbol item)
              (residue-value p (item_constant p item) (constant-below p prime item))

  clear-edit : (unknown : List ℕ) → edit_rule p (codes "clear") old (name ∷ unknown ∷ []) ≡ None → HasEdit p (codes "clear") (name ∷ unknown ∷ []) old
  clear-edit unknown kept =
      let first = both_kept (there_rule old.equations name) (unknowns_rule old (unknown ∷ [])) kept in
      from (equation-at first.0) (found old.unknowns unknown (both_kept (there_rule old.unknowns unknown) None first.1).0)
    where
      from : (k : ℕ) × (position (bytes_eq name) old.equations ≡ Some k) × (k < length old.equations) →
          (j : ℕ) × (position (bytes_eq unknown) old.unknowns ≡ Some j) → HasEdit p (codes "clear") (name ∷ unknown ∷ []) old
      from (k, at, kl) (j, there) = record {
        new = set.new;
        edit = inr (inr (inr (refl, (unknown, refl, record { equation = k; found = at; column = j; there = there; cleared = set.sets }))));
        is_model = set.is_model;
      }
        where
          set : HasSet p old k j None false
          set = place_set p (omega (arith, prime.above_one)) old is k j kl (has_name-Some old.unknowns unknown j there).0 None false (no_value p)

  -- of as many words as there are
  drop-words : (words : List (List ℕ)) → length words + 2 ≡ 2 → edit_rule p (codes "drop") old (name ∷ words) ≡ None →
      HasEdit p (codes "drop") (name ∷ words) old
  drop-words [] count kept = drop-edit kept
  drop-words (word ∷ words) count kept = absurd (omega (arith, count))

  set-words : (words : List (List ℕ)) → length words + 2 ≡ 3 → edit_rule p (codes "set") old (name ∷ words) ≡ None → HasEdit p (codes "set") (name ∷ words) old
  set-words [] count kept = absurd (omega (arith, count))
  set-words (item ∷ []) count kept = set-edit item kept
  set-words (item ∷ word ∷ words) count kept = absurd (omega (arith, count))

  clear-words : (words : List (List ℕ)) → length words + 2 ≡ 3 → edit_rule p (codes "clear") old (name ∷ words) ≡ None →
      HasEdit p (codes "clear") (name ∷ words) old
  clear-words [] count kept = absurd (omega (arith, count))
  clear-words (unknown ∷ []) count kept = clear-edit unknown kept
  clear-words (unknown ∷ word ∷ words) count kept = absurd (omega (arith, count))

  -- what holds of the word of a command holds of a word that is this one
  module _ (word : List ℕ) (words : List (List ℕ)) (kept : edit_rule p word old (name ∷ words) ≡ None) where
    said : (text : List ℕ) → word ≡ text → (edit_rule p text old (name ∷ words) ≡ None → HasEdit p text (name ∷ words) old) → HasEdit p word (name ∷ words) old
    said text is_text edit = subst (λ w. HasEdit p w (name ∷ words) old) (sym is_text)
        (edit (subst (λ w. edit_rule p w old (name ∷ words) ≡ None) is_text kept))

    of-command : IsCommand word (length words + 2) → HasEdit p word (name ∷ words) old
    of-command (inl (is_add, many)) = said (codes "add") is_add (add-edit p prime old is name words)
    of-command (inr (inl (is_drop, count))) = said (codes "drop") is_drop (drop-words words count)
    of-command (inr (inr (inl (is_set, count)))) = said (codes "set") is_set (set-words words count)
    of-command (inr (inr (inr (inl (is_clear, count))))) = said (codes "clear") is_clear (clear-words words count)
    of-command (inr (inr (inr (inr (is_ask, count))))) = absurd (omega (arith, count))

pub each-edit : EachEditHasAModel
each-edit p prime count word number name words old is front kept =
    let shape = both_kept (command_shape_rule word (length (number ∷ name ∷ words))) (model_number_rule count (number ∷ name ∷ words)) front in
    let long : length (number ∷ name ∷ words) ≡ length words + 2 = omega arith in
    of-command p prime old is name word words kept (command-is word (length words + 2) (subst (λ n. command_shape_rule word n ≡ None) long shape.0))
