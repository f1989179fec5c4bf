-- What terms say of a model that grows by an equation or by an unknown.
use Rattle.std.proofs.Common.{◌≡◌, ℕ, ◌<◌, ◌≤◌, Bool, true, false, ◌&&◌, List, [], ◌∷◌, ◌++◌, All, length, get_or}
use Rattle.std.proofs.Common.{None, unwrap_or, refl, sym, ap, subst, ◌∙◌, arith, ⊎_elim, length-append}
use Rattle.std.specs.List.{AllByRecursion}
use Rattle.std.specs.Str.{bytes_eq}
use Rattle.std.proofs.lemmas.Bool.{cases_lt}
use Rattle.std.proofs.lemmas.List.{get_or_append_left, get_or_push, get_or_past}
use Rattle.std.proofs.lemmas.Slice.Eq.{bytes_eq-Decides}
use Rattle.mixed_model.specs.Models.{MixedModel, IsModel, row_of, with_equation, with_unknown}
use Rattle.mixed_model.specs.Names.{has_name}
use Rattle.mixed_model.specs.Rows.{entry_in, constant_at_place, symbol_at_place, constant_in, symbol_in}
use Rattle.mixed_model.proofs.RowLaws.{entry_in-None}
use Rattle.term_model.specs.Terms.{Term, said_of, symbol_said, stands_at}
use Rattle.term_model.specs.Putting.{IsFree, Says}
use Rattle.term_model.proofs.Lists.{at_all}
use Rattle.term_model.proofs.Saying.{said_of-free, symbol_said-free}

-- a name that is among some differs from one that is not
new_other : (names : List (List ℕ)) (name other : List ℕ) → has_name names name ≡ false → has_name names other ≡ true → bytes_eq name other ≡ false
new_other names name other new there = by (bytes_eq name other) refl
  where
    by : (b : Bool) → bytes_eq name other ≡ b → bytes_eq name other ≡ false
    by false e = e
    by true e =
        let both : true ≡ false = sym there ∙ ap (has_name names) (sym ((bytes_eq-Decides name other).0 e)) ∙ new in
        let f : ⊥ = cc in absurd f

and_false : (a : Bool) → (a && false) ≡ false
and_false true = refl
and_false false = refl

-- terms with their equations among some leave another equation free, and so it is with unknowns
pub equation-free : (names : List (List ℕ)) (terms : List Term) (equation unknown : List ℕ) →
    has_name names equation ≡ false → AllByRecursion (λ (term : Term). has_name names term.equation ≡ true) terms →
    IsFree terms equation unknown
equation-free names [] equation unknown new all = refl
equation-free names (term ∷ terms) equation unknown new all =
    let here : stands_at equation unknown term ≡ false = ap (λ b. b && bytes_eq unknown term.unknown) (new_other names equation term.equation new all.0) in
    rw here (equation-free names terms equation unknown new all.1)

unknown-free : (names : List (List ℕ)) (terms : List Term) (equation unknown : List ℕ) →
    has_name names unknown ≡ false → AllByRecursion (λ (term : Term). has_name names term.unknown ≡ true) terms →
    IsFree terms equation unknown
unknown-free names [] equation unknown new all = refl
unknown-free names (term ∷ terms) equation unknown new all =
    let here : stands_at equation unknown term ≡ false = ap (λ b. bytes_eq equation term.equation && b)
    (new_other names unknown term.unknown new all.0) ∙ and_false (bytes_eq equation term.equation) in
    rw here (unknown-free names terms equation unknown new all.1)

-- a place past the last row or the last column has no entry
pub entry-beyond : (p : ℕ) (model : MixedModel) → IsModel p model → (i j : ℕ) → length model.unknowns ≤ j → entry_in (row_of model i) j ≡ None
entry-beyond p model is i j beyond = ⊎_elim
    (λ within. entry_in-None (row_of model i) j (λ k d at same. let below = (is.rows i [] within).1 k d at in omega (arith, below, same)))
    (λ past. ap (λ row. entry_in row j) (get_or_past model.rows i [] past))
    (cases_lt i (length model.rows))

-- the new equation has nothing
module _ (p : ℕ) (terms : List Term) (old : MixedModel) (name : List ℕ) (says : Says p terms old)
    (among : All (λ (term : Term). has_name old.equations term.equation ≡ true) terms)
    (absent : has_name old.equations name ≡ false) (is : IsModel p old) where
  free : (unknown : List ℕ) → IsFree terms name unknown
  free unknown = equation-free old.equations terms name unknown absent (at_all (λ (term : Term). has_name old.equations term.equation ≡ true) terms among)

  rows_stay : (i : ℕ) → i < length old.equations → get_or (old.rows ++ [] ∷ []) i [] ≡ row_of old i
  rows_stay i before = get_or_append_left old.rows ([] ∷ []) [] i (omega (arith, before, is.one_row_each))

  names_stay : (i : ℕ) → i < length old.equations → get_or old.equations i [] ≡ get_or (old.equations ++ name ∷ []) i []
  names_stay i before = sym (get_or_append_left old.equations (name ∷ []) [] i before)

  with_equation-says : Says p terms (with_equation old name)
  with_equation-says = record {
    constants = λ i j at col. ⊎_elim
        (λ before.
        ap (λ row. unwrap_or (constant_in row j) 0) (rows_stay i before)
        ∙ says.constants i j before col
        ∙ ap (λ equation. said_of p terms equation (get_or old.unknowns j [])) (names_stay i before))
        (λ beyond.
        let last : length old.equations ≡ i = omega (arith, length-append old.equations (name ∷ [])) in
        ap (λ row. unwrap_or (constant_in row j) 0) (get_or_push old.rows [] [] i (is.one_row_each ∙ last))
        ∙ sym (said_of-free p terms name (get_or old.unknowns j []) (free (get_or old.unknowns j [])))
        ∙ ap (λ equation. said_of p terms equation (get_or old.unknowns j [])) (sym (get_or_push old.equations name [] i last)))
        (cases_lt i (length old.equations));
    symbols = λ i j at col. ⊎_elim
        (λ before.
        ap (λ row. symbol_in row j) (rows_stay i before)
        ∙ says.symbols i j before col
        ∙ ap (λ equation. symbol_said terms equation (get_or old.unknowns j [])) (names_stay i before))
        (λ beyond.
        let last : length old.equations ≡ i = omega (arith, length-append old.equations (name ∷ [])) in
        ap (λ row. symbol_in row j) (get_or_push old.rows [] [] i (is.one_row_each ∙ last))
        ∙ sym (symbol_said-free terms name (get_or old.unknowns j []) (free (get_or old.unknowns j [])))
        ∙ ap (λ equation. symbol_said terms equation (get_or old.unknowns j [])) (sym (get_or_push old.equations name [] i last)))
        (cases_lt i (length old.equations));
  }

  pub says-equation : (new : MixedModel) → new ≡ with_equation old name → Says p terms new
  says-equation new grown = subst (Says p terms) (sym grown) with_equation-says

-- the new unknown stands nowhere
module _ (p : ℕ) (terms : List Term) (old : MixedModel) (name : List ℕ) (says : Says p terms old)
    (among : All (λ (term : Term). has_name old.unknowns term.unknown ≡ true) terms)
    (absent : has_name old.unknowns name ≡ false) (is : IsModel p old) where
  clear : (equation : List ℕ) → IsFree terms equation name
  clear equation = unknown-free old.unknowns terms equation name absent (at_all (λ (term : Term). has_name old.unknowns term.unknown ≡ true) terms among)

  unknowns_stay : (j : ℕ) → j < length old.unknowns → get_or old.unknowns j [] ≡ get_or (old.unknowns ++ name ∷ []) j []
  unknowns_stay j before = sym (get_or_append_left old.unknowns (name ∷ []) [] j before)

  with_unknown-says : Says p terms (with_unknown old name)
  with_unknown-says = record {
    constants = λ i j at col. ⊎_elim
        (λ before.
        says.constants i j at before
        ∙ ap (said_of p terms (get_or old.equations i [])) (unknowns_stay j before))
        (λ beyond.
        let last : length old.unknowns ≡ j = omega (arith, length-append old.unknowns (name ∷ [])) in
        ap (λ entry. unwrap_or (constant_at_place entry) 0) (entry-beyond p old is i j beyond)
        ∙ sym (said_of-free p terms (get_or old.equations i []) name (clear (get_or old.equations i [])))
        ∙ ap (said_of p terms (get_or old.equations i [])) (sym (get_or_push old.unknowns name [] j last)))
        (cases_lt j (length old.unknowns));
    symbols = λ i j at col. ⊎_elim
        (λ before.
        says.symbols i j at before
        ∙ ap (symbol_said terms (get_or old.equations i [])) (unknowns_stay j before))
        (λ beyond.
        let last : length old.unknowns ≡ j = omega (arith, length-append old.unknowns (name ∷ [])) in
        ap symbol_at_place (entry-beyond p old is i j beyond)
        ∙ sym (symbol_said-free terms (get_or old.equations i []) name (clear (get_or old.equations i [])))
        ∙ ap (symbol_said terms (get_or old.equations i [])) (sym (get_or_push old.unknowns name [] j last)))
        (cases_lt j (length old.unknowns));
  }

  pub says-unknown : (new : MixedModel) → new ≡ with_unknown old name → Says p terms new
  says-unknown new grown = subst (Says p terms) (sym grown) with_unknown-says
