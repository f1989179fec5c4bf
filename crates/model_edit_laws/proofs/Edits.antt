-- What the calls that edit a model make of its mixed matrix.
use Rattle.std.proofs.Common.{◌≡◌, ◌≢◌, ◌∙◌, ℕ, ◌+◌, ◌<◌, ◌≤◌, inl, inr, Bool, true, false, cond, ◌&&◌, nat_eq, ne_eqb, ltb, List, [], ◌∷◌, length}
use Rattle.std.proofs.Common.{Option, Ok, Err, unwrap_or, ap, refl, subst, sym, arith}
use Rattle.std.proofs.lemmas.List.{get_or_append_left, length_push}
use Rattle.std.proofs.lemmas.List.Edits.{get_or-remove_above, get_or-remove_below, length-remove}
use Rattle.residue_theory.proofs.SetLaws.{lt_cases}
use Rattle.linear_algebra.specs.Parts.{skip}
use Rattle.linear_algebra_laws.proofs.SkipLaws.{skip-below, skip-first, skip-later, skip-other}
use Rattle.mixed_model.specs.Names.{adding, has_name}
use Rattle.mixed_model.specs.declared.errors.AddError.TheVariants.{TooMany, Twice}
use Rattle.mixed_model.specs.Models.{IsModel, MixedModel, SetsPlace, mixed_matrix_of}
use Rattle.mixed_model.specs.Models.{constant_at, constant_of, equation_removed, row_of, symbol_of, with_equation}
use Rattle.mixed_model.specs.Rows.{constant_in, symbol_in}
use Rattle.mixed_model.proofs.ModelLaws.{beyond_unknowns}
use Rattle.mixed_edit_laws.specs.Changes.{IsAdded, IsChanged, IsRemoved}
use Rattle.model_edit_laws.specs.Edits.{IsEditedAt}

-- what is edited at no equation is edited at each
pub unedited : (model : MixedModel) (e : ℕ) → IsEditedAt model model e
unedited model e = record {
  equations = refl;
  unknowns = omega arith;
  constants = λ i j other. refl;
  symbols = λ i j other. refl;
}

pub edited_again : (a b c : MixedModel) (e : ℕ) → IsEditedAt a b e → IsEditedAt b c e → IsEditedAt a c e
edited_again a b c e first then = record {
  equations = then.equations ∙ first.equations;
  unknowns = omega (arith, first.unknowns, then.unknowns);
  constants = λ i j other. then.constants i j other ∙ first.constants i j other;
  symbols = λ i j other. then.symbols i j other ∙ first.symbols i j other;
}

-- what is set at a place edits its equation
pub set_place : (old new : MixedModel) (i j : ℕ) (constant : Option ℕ) (symbol : Bool) → SetsPlace old new i j constant symbol →
    IsEditedAt old new i
set_place old new i j constant symbol set = record {
  equations = ap (λ (names : List (List ℕ)). length names) set.equations;
  unknowns = let same = ap (λ (names : List (List ℕ)). length names) set.unknowns in omega (arith, same);
  constants = λ k c other. set.constants k c
      ∙ ap (λ here. cond (here && nat_eq j c) constant (constant_of old k c)) (elsewhere k other);
  symbols = λ k c other. set.symbols k c ∙ ap (λ here. cond (here && nat_eq j c) symbol (symbol_of old k c)) (elsewhere k other);
}
  where
    elsewhere : (k : ℕ) → k ≢ i → nat_eq i k ≡ false
    elsewhere k other = ne_eqb i k (λ same. other (sym same))

-- beyond the unknowns of a model nothing stands
module _ (p : ℕ) (model : MixedModel) (is : IsModel p model) (i : ℕ) (il : i < length model.equations) (j : ℕ) (jl : length model.unknowns ≤ j) where
  beyond : constant_at model i j ≡ 0
  beyond = ap (λ x. unwrap_or x 0) (beyond_unknowns (length model.unknowns) (row_of model i) j
      (is.rows i [] (omega (arith, is.one_row_each, il))).1 jl).0

  bare : symbol_of model i j ≡ false
  bare = (beyond_unknowns (length model.unknowns) (row_of model i) j (is.rows i [] (omega (arith, is.one_row_each, il))).1 jl).1

pub changed : (p : ℕ) (old new : MixedModel) (e : ℕ) → IsModel p old → e < length old.equations → IsEditedAt old new e →
    IsChanged (mixed_matrix_of old) (mixed_matrix_of new) e
changed p old new e is el edited = record {
  below = el;
  rows = edited.equations;
  others = record {
    rows = omega (arith, edited.equations);
    columns = edited.unknowns;
    constant = λ i j il jl. ap (λ x. unwrap_or x 0) (edited.constants (skip e i) j (skip-other e i));
    symbol = λ i j il jl. edited.symbols (skip e i) j (skip-other e i);
    no_constant = λ i j il jl below. ap (λ x. unwrap_or x 0) (edited.constants (skip e i) j (skip-other e i))
        ∙ beyond p old is (skip e i) (skip-below e i (length old.equations) el il) j jl;
    no_symbol = λ i j il jl below. edited.symbols (skip e i) j (skip-other e i)
        ∙ bare p old is (skip e i) (skip-below e i (length old.equations) el il) j jl;
  };
}

pub added : (p : ℕ) (old new : MixedModel) (name : List ℕ) → IsModel p old →
    IsEditedAt (with_equation old name) new (length old.equations) → IsAdded (mixed_matrix_of old) (mixed_matrix_of new)
added p old new name is edited = record {
  rows = count;
  others = record {
    rows = omega (arith, count);
    columns = edited.unknowns;
    constant = λ i j il jl. constant i j il;
    symbol = λ i j il jl. symbol i j il;
    no_constant = λ i j il jl below. constant i j il ∙ beyond p old is i il j jl;
    no_symbol = λ i j il jl below. symbol i j il ∙ bare p old is i il j jl;
  };
}
  where
    count : length new.equations ≡ length old.equations + 1
    count = edited.equations ∙ length_push old.equations name

    here : (i : ℕ) → i < length old.equations → row_of (with_equation old name) i ≡ row_of old i
    here i il = get_or_append_left old.rows ([] ∷ []) [] i (omega (arith, is.one_row_each, il))

    other : (i : ℕ) → i < length old.equations → skip (length old.equations) i ≡ i
    other i il = skip-first (length old.equations) i il

    constant : (i j : ℕ) → i < length old.equations → constant_at new (skip (length old.equations) i) j ≡ constant_at old i j
    constant i j il =
        ap (λ k. constant_at new k j) (other i il)
        ∙ ap (λ x. unwrap_or x 0) (edited.constants i j (λ e. omega (arith, il, e)) ∙ ap (λ row. constant_in row j) (here i il))

    symbol : (i j : ℕ) → i < length old.equations → symbol_of new (skip (length old.equations) i) j ≡ symbol_of old i j
    symbol i j il =
        ap (λ k. symbol_of new k j) (other i il)
        ∙ edited.symbols i j (λ e. omega (arith, il, e)) ∙ ap (λ row. symbol_in row j) (here i il)

-- an equation that was added stands last
pub added_last : (names : List (List ℕ)) (name : List ℕ) (i : ℕ) → adding names name ≡ Ok i → i ≡ length names
added_last names name i answer = by (has_name names name) (ltb (length names) 4096) answer
  where
    by : (there room : Bool) → cond there (Err Twice) (cond room (Ok (length names)) (Err TooMany)) ≡ Ok i → i ≡ length names
    by true room e = let f : ⊥ = cc in absurd f
    by false true e = cc
    by false false e = let f : ⊥ = cc in absurd f

-- the same, by what the calls tell
pub added_then : (p : ℕ) (old more new : MixedModel) (name : List ℕ) (i : ℕ) → IsModel p old → more ≡ with_equation old name →
    adding old.equations name ≡ Ok i → IsEditedAt more new i → IsAdded (mixed_matrix_of old) (mixed_matrix_of new)
added_then p old more new name i is put answer edited =
    added p old new name is (subst (λ m. IsEditedAt m new (length old.equations)) put
    (subst (λ k. IsEditedAt more new k) (added_last old.equations name i answer) edited))

pub removed : (p : ℕ) (old : MixedModel) (e : ℕ) → IsModel p old → e < length old.equations →
    IsRemoved (mixed_matrix_of old) (mixed_matrix_of (equation_removed old e)) e
removed p old e is el = record {
  below = el;
  others = record {
    rows = let less = length-remove old.equations e el in omega (arith, less);
    columns = omega arith;
    constant = λ i j il jl. constant i j;
    symbol = λ i j il jl. symbol i j;
    no_constant = λ i j il jl below. absurd (omega (arith, jl, below));
    no_symbol = λ i j il jl below. absurd (omega (arith, jl, below));
  };
}
  where
    within : e < length old.rows
    within = omega (arith, is.one_row_each, el)

    rows : (k : ℕ) → row_of (equation_removed old e) k ≡ row_of old (skip e k)
    rows k = elim (lt_cases k e) [
      | inl low ↦ get_or-remove_below old.rows e [] k low within ∙ ap (row_of old) (sym (skip-first e k low))
      | inr high ↦ get_or-remove_above old.rows e [] k high within ∙ ap (row_of old) (sym (skip-later e k high))
    ]

    constant : (i j : ℕ) → constant_at (equation_removed old e) i j ≡ constant_at old (skip e i) j
    constant i j = ap (λ row. unwrap_or (constant_in row j) 0) (rows i)

    symbol : (i j : ℕ) → symbol_of (equation_removed old e) i j ≡ symbol_of old (skip e i) j
    symbol i j = ap (λ row. symbol_in row j) (rows i)
