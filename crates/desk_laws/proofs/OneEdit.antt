-- An edit leads from one model to one model.
use Rattle.std.proofs.Common.{◌≡◌, ◌∙◌, ◌+◌, ◌<◌, ◌≤◌, ℕ, Bool, false, List, [], ◌∷◌, length, length-append, codes, eqb, get_or, inl, inr}
use Rattle.std.proofs.Common.{Option, None, unwrap_or, refl, ap, sym, subst, arith}
use Rattle.std.proofs.lemmas.Bool.{eqb-false}
use Rattle.residue_theory.proofs.SetLaws.{lt_cases}
use Rattle.mixed_model.specs.Models.{IsModel, MixedModel, SetsPlace, constant_at, equation_removed, symbol_of, with_seen_unknown}
use Rattle.mixed_model.specs.Names.{name_at}
use Rattle.mixed_model.proofs.ModelLaws.{models_told, same_models}
use Rattle.matrix_reader.specs.Items.{item_constant, item_symbol, unknown_of, unless_zero}
use Rattle.matrix_reader.specs.Models.{said_of, symbol_said}
use Rattle.model_edits.specs.Edits.{HasEquationMore, ClearsPlaceOf, DropsEquation, IsEditOf, SetsItem, SetsPlaceOf}

-- words with other first bytes
apart : (word one other : List ℕ) → eqb (get_or one 0 0) (get_or other 0 0) ≡ false → word ≡ one → word ≡ other → ⊥
apart word one other test first second = eqb-false (get_or one 0 0) (get_or other 0 0) test (ap (λ bytes. get_or bytes 0 0) (sym first ∙ second))

module _ (p : ℕ) (old a b : MixedModel) (is : IsModel p a) (so : IsModel p b) where
  places-one : (i j : ℕ) (constant : Option ℕ) (symbol : Bool) → SetsPlace old a i j constant symbol → SetsPlace old b i j constant symbol → b ≡ a
  places-one i j constant symbol one two = same_models p b a so is (two.equations ∙ sym one.equations) (two.unknowns ∙ sym one.unknowns)
      (λ k c kl cl. two.constants k c ∙ sym (one.constants k c)) (λ k c kl cl. two.symbols k c ∙ sym (one.symbols k c))

  added-one : (name : List ℕ) (items : List (List ℕ)) → HasEquationMore p old a name items → HasEquationMore p old b name items → b ≡ a
  added-one name items one two = models_told p b a so is equations unknowns
      (λ i j il jl. elim (lt_cases i (length old.equations)) [
        | inl less ↦ ap (λ o. unwrap_or o 0) (two.kept_constants i j less ∙ sym (one.kept_constants i j less))
        | inr more ↦ subst (λ e. constant_at b e j ≡ constant_at a e j) (last i il more)
            (two.constants j jl ∙ ap (λ names. said_of p items (name_at names j)) unknowns ∙ sym (one.constants j (lower j jl)))
      ])
      (λ i j il jl. elim (lt_cases i (length old.equations)) [
        | inl less ↦ two.kept_symbols i j less ∙ sym (one.kept_symbols i j less)
        | inr more ↦ subst (λ e. symbol_of b e j ≡ symbol_of a e j) (last i il more)
            (two.symbols j jl ∙ ap (λ names. symbol_said items (name_at names j)) unknowns ∙ sym (one.symbols j (lower j jl)))
      ])
    where
      equations : b.equations ≡ a.equations
      equations = two.equations ∙ sym one.equations

      unknowns : b.unknowns ≡ a.unknowns
      unknowns = two.unknowns ∙ sym one.unknowns

      lower : (j : ℕ) → j < length b.unknowns → j < length a.unknowns
      lower j jl = subst (λ names. j < length names) unknowns jl

      last : (i : ℕ) → i < length b.equations → length old.equations ≤ i → length old.equations ≡ i
      last i il more =
          let many : length b.equations ≡ length old.equations + 1 =
          ap (λ names. length names) two.equations ∙ length-append old.equations (name ∷ []) in
          omega (arith, il, more, many)

  dropped-one : (name : List ℕ) → DropsEquation old a name → DropsEquation old b name → b ≡ a
  dropped-one name one two =
      let at : two.equation ≡ one.equation = cc (one.found, two.found) in
      two.dropped ∙ ap (equation_removed old) at ∙ sym one.dropped

  cleared-one : (name unknown : List ℕ) → ClearsPlaceOf old a name unknown → ClearsPlaceOf old b name unknown → b ≡ a
  cleared-one name unknown one two =
      let at : two.equation ≡ one.equation = cc (one.found, two.found) in
      let beside : two.column ≡ one.column = cc (one.there, two.there) in
      places-one one.equation one.column None false one.cleared
      (subst (λ i. SetsPlace old b i one.column None false) at (subst (λ j. SetsPlace old b two.equation j None false) beside two.cleared))

one-word : (words : List (List ℕ)) (item other : List ℕ) → words ≡ item ∷ [] → words ≡ other ∷ [] → other ≡ item
one-word words item other one two = cc

module _ (p : ℕ) (old a b : MixedModel) (is : IsModel p a) (so : IsModel p b) where
  item-one : (i : ℕ) (name : List ℕ) (constant : Option ℕ) (symbol : Bool) → SetsItem old a i name constant symbol →
      SetsItem old b i name constant symbol → b ≡ a
  item-one i name constant symbol one two =
      let beside : two.unknown ≡ one.unknown = cc (one.seen, two.seen) in
      places-one p (with_seen_unknown old name) a b is so i one.unknown constant symbol one.set
      (subst (λ j. SetsPlace (with_seen_unknown old name) b i j constant symbol) beside two.set)

  set-one : (name item : List ℕ) → SetsPlaceOf p old a name item → SetsPlaceOf p old b name item → b ≡ a
  set-one name item one two =
      let at : two.equation ≡ one.equation = cc (one.found, two.found) in
      item-one one.equation (unknown_of item) (unless_zero (item_constant p item)) (item_symbol item) one.set
      (subst (λ i. SetsItem old b i (unknown_of item) (unless_zero (item_constant p item)) (item_symbol item)) at two.set)

  pub edit-one : (word : List ℕ) (words : List (List ℕ)) → IsEditOf p word words old a → IsEditOf p word words old b → b ≡ a
  edit-one word [] one two = absurd one
  edit-one word (name ∷ words) (inl (first, one)) (inl (second, two)) = added-one p old a b is so name words one two
  edit-one word (name ∷ words) (inl (first, one)) (inr (inl (second, none, two))) = absurd (apart word (codes "add") (codes "drop") refl first second)
  edit-one word (name ∷ words) (inl (first, one)) (inr (inr (inl (second, (other, so_words, two))))) =
      absurd (apart word (codes "add") (codes "set") refl first second)
  edit-one word (name ∷ words) (inl (first, one)) (inr (inr (inr (second, (other, so_words, two))))) =
      absurd (apart word (codes "add") (codes "clear") refl first second)
  edit-one word (name ∷ words) (inr (inl (first, empty, one))) (inl (second, two)) =
      absurd (apart word (codes "drop") (codes "add") refl first second)
  edit-one word (name ∷ words) (inr (inl (first, empty, one))) (inr (inl (second, none, two))) = dropped-one p old a b is so name one two
  edit-one word (name ∷ words) (inr (inl (first, empty, one))) (inr (inr (inl (second, (other, so_words, two))))) =
      absurd (apart word (codes "drop") (codes "set") refl first second)
  edit-one word (name ∷ words) (inr (inl (first, empty, one))) (inr (inr (inr (second, (other, so_words, two))))) =
      absurd (apart word (codes "drop") (codes "clear") refl first second)
  edit-one word (name ∷ words) (inr (inr (inl (first, (item, is_words, one))))) (inl (second, two)) =
      absurd (apart word (codes "set") (codes "add") refl first second)
  edit-one word (name ∷ words) (inr (inr (inl (first, (item, is_words, one))))) (inr (inl (second, none, two))) =
      absurd (apart word (codes "set") (codes "drop") refl first second)
  edit-one word (name ∷ words) (inr (inr (inl (first, (item, is_words, one))))) (inr (inr (inl (second, (other, so_words, two))))) =
      set-one name item one (subst (λ text. SetsPlaceOf p old b name text) (one-word words item other is_words so_words) two)
  edit-one word (name ∷ words) (inr (inr (inl (first, (item, is_words, one))))) (inr (inr (inr (second, (other, so_words, two))))) =
      absurd (apart word (codes "set") (codes "clear") refl first second)
  edit-one word (name ∷ words) (inr (inr (inr (first, (item, is_words, one))))) (inl (second, two)) =
      absurd (apart word (codes "clear") (codes "add") refl first second)
  edit-one word (name ∷ words) (inr (inr (inr (first, (item, is_words, one))))) (inr (inl (second, none, two))) =
      absurd (apart word (codes "clear") (codes "drop") refl first second)
  edit-one word (name ∷ words) (inr (inr (inr (first, (item, is_words, one))))) (inr (inr (inl (second, (other, so_words, two))))) =
      absurd (apart word (codes "clear") (codes "set") refl first second)
  edit-one word (name ∷ words) (inr (inr (inr (first, (item, is_words, one))))) (inr (inr (inr (second, (other, so_words, two))))) =
      cleared-one p old a b is so name item one (subst (λ text. ClearsPlaceOf old b name text) (one-word words item other is_words so_words) two)
