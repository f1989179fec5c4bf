-- What an equation holds: constants, symbols, or both, read from its row.
use Rattle.std.proofs.Common.{◌≡◌, ℕ, suc, ◌<◌, Bool, true, false, not, cond, ◌||◌, List, [], ◌∷◌, length, get_or}
use Rattle.std.proofs.Common.{Option, Some, None, is_some, refl, sym, ap, ◌∙◌, arith, eqb, ne_eqb}
use Rattle.std.specs.List.{list_any}
use Rattle.std.specs.Option.{unwrap_or}
use Rattle.std.proofs.lemmas.List.Folds.{list_any_at}
use Rattle.mixed_matrices.specs.Layerings.{has_constant, has_symbol}
use Rattle.residue_theory.specs.Sets.{some_below}
use Rattle.residue_theory.proofs.SetLaws.{some_below-found, some_below-holds}
use Rattle.mixed_model.specs.Entries.{RowEntry}
use Rattle.mixed_model.specs.Rows.{entry_in, constant_at_place, symbol_at_place, constant_in, symbol_in, IsRow, AreColumnsBelow}
use Rattle.mixed_model.specs.Models.{MixedModel, IsModel, row_of, mixed_matrix_of}
use Rattle.mixed_model.proofs.RowLaws.{entry_in-place, entry_in-filled}

-- an entry that is found stands at a place
stands_at : (row : List RowEntry) (column : ℕ) (entry : RowEntry) → entry_in row column ≡ Some entry → (k : ℕ)
    × (k < length row) × ((d : RowEntry) → get_or row k d ≡ entry)
stands_at [] column entry at = let f : ⊥ = cc in absurd f
stands_at (next ∷ row) column entry at = by (eqb next.column column) at (stands_at row column entry)
  where
    by : (b : Bool) → cond b (Some next) (entry_in row column) ≡ Some entry →
        (entry_in row column ≡ Some entry → (k : ℕ) × (k < length row) × ((d : RowEntry) → get_or row k d ≡ entry)) →
        (k : ℕ) × (k < length (next ∷ row)) × ((d : RowEntry) → get_or (next ∷ row) k d ≡ entry)
    by true here rest = (0, omega arith, λ d. let same : next ≡ entry = cc in same)
    by false there rest = let later = rest there in (suc later.0, omega (arith, later.1), λ d. later.2 d)

-- where an item that passes a test stands
passing : (P : RowEntry → Bool) (row : List RowEntry) → list_any P row ≡ true → (k : ℕ) × (k < length row) × ((d : RowEntry) → P (get_or row k d) ≡ true)
passing P [] any = let f : ⊥ = cc in absurd f
passing P (next ∷ row) any = by (P next) refl any (passing P row)
  where
    by : (b : Bool) → P next ≡ b → (b || list_any P row) ≡ true → (list_any P row ≡ true → (k : ℕ) × (k < length row)
        × ((d : RowEntry) → P (get_or row k d) ≡ true)) → (k : ℕ) × (k < length (next ∷ row))
        × ((d : RowEntry) → P (get_or (next ∷ row) k d) ≡ true)
    by true here yes_any rest = (0, omega arith, λ d. here)
    by false here later_any rest = let later = rest later_any in (suc later.0, omega (arith, later.1), λ d. later.2 d)

-- a test of the places below the columns, and of the entries
some_place : (p : ℕ) (P : RowEntry → Bool) (told : ℕ → Bool) (row : List RowEntry) (columns : ℕ) → IsRow p row →
    AreColumnsBelow columns row → ((j : ℕ) (entry : RowEntry) → entry_in row j ≡ Some entry → told j ≡ P entry) →
    ((j : ℕ) → entry_in row j ≡ None → told j ≡ false) → some_below columns told ≡ list_any P row
some_place p P told row columns rises within at_entry at_none = by (some_below columns told) refl (list_any P row) refl
  where
    found : some_below columns told ≡ true → list_any P row ≡ true
    found some =
        let column = some_below-found columns told some in
        at (entry_in row column.0) column.0 refl column.2
      where
        at : (x : Option RowEntry) (j : ℕ) → entry_in row j ≡ x → told j ≡ true → list_any P row ≡ true
        at None j e t = let f : true ≡ false = sym t ∙ at_none j e in let g : ⊥ = cc in absurd g
        at (Some entry) j e t =
            let place = stands_at row j entry e in
            list_any_at P row place.0 entry place.1 (ap P (place.2 entry) ∙ sym (at_entry j entry e) ∙ t)

    holds : list_any P row ≡ true → some_below columns told ≡ true
    holds any =
        let place = passing P row any in
        let d = empty in
        let entry = get_or row place.0 d in
        some_below-holds columns told entry.column (within place.0 d place.1)
        (at_entry entry.column entry (entry_in-place p 0 row rises entry.column place.0 d place.1 refl) ∙ place.2 d)
      where
        empty : RowEntry
        empty = record { column = 0; constant = None; symbol = false }

    by : (a : Bool) → some_below columns told ≡ a → (b : Bool) → list_any P row ≡ b → some_below columns told ≡ list_any P row
    by true p b q = p ∙ sym (found p)
    by false p true q = holds q ∙ sym q
    by false p false q = p ∙ sym q

-- constants, of which none is 0
some_constant : (p : ℕ) (row : List RowEntry) (columns : ℕ) → IsRow p row → AreColumnsBelow columns row →
    some_below columns (λ j. not (eqb (unwrap_or (constant_in row j) 0) 0)) ≡ list_any
    (λ entry. is_some entry.constant) row
some_constant p row columns rises within =
    some_place p (λ entry. is_some entry.constant) (λ j. not (eqb (unwrap_or (constant_in row j) 0) 0)) row columns rises within
    (λ j entry at. ap (λ x. not (eqb (unwrap_or (constant_at_place x) 0) 0)) at
    ∙ by entry.constant (λ c e. (entry_in-filled p 0 row rises j entry at).positive c e))
    (λ j at. ap (λ x. not (eqb (unwrap_or (constant_at_place x) 0) 0)) at)
  where
    by : (x : Option ℕ) → ((c : ℕ) → x ≡ Some c → 0 < c) → not (eqb (unwrap_or x 0) 0) ≡ is_some x
    by None positive = refl
    by (Some c) positive = let some = positive c refl in rw (ne_eqb c 0 (λ e. omega (arith, some, e))) refl

-- symbols
some_symbol : (p : ℕ) (row : List RowEntry) (columns : ℕ) → IsRow p row → AreColumnsBelow columns row →
    some_below columns (symbol_in row) ≡ list_any (λ entry. entry.symbol) row
some_symbol p row columns rises within =
    some_place p (λ entry. entry.symbol) (symbol_in row) row columns rises within
    (λ j entry at. ap symbol_at_place at) (λ j at. ap symbol_at_place at)

-- an equation's row within a model
module _ (p : ℕ) (model : MixedModel) (is : IsModel p model) (i : ℕ) (equation : i < length model.equations) where
  row_is : IsRow p (row_of model i) × AreColumnsBelow (length model.unknowns) (row_of model i)
  row_is = is.rows i [] (omega (arith, is.one_row_each))

  pub model_has_constant : list_any (λ entry. is_some entry.constant) (row_of model i) ≡ has_constant (mixed_matrix_of model) i
  model_has_constant = sym (some_constant p (row_of model i) (length model.unknowns) row_is.0 row_is.1)

  pub model_has_symbol : list_any (λ entry. entry.symbol) (row_of model i) ≡ has_symbol (mixed_matrix_of model) i
  model_has_symbol = sym (some_symbol p (row_of model i) (length model.unknowns) row_is.0 row_is.1)
