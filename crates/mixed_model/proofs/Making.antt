-- A model of each size, with given names, constants and symbols.
use Rattle.std.proofs.Common.{◌≡◌, ℕ, zero, suc, ◌+◌, ◌<◌, ◌≤◌, Bool, true, false, List, [], ◌∷◌, length}
use Rattle.std.proofs.Common.{map, get_or, Some, None, unwrap_or, refl, sym, ap, subst, ◌∙◌, arith}
use Rattle.std.proofs.Common.{eq-eqb, ne_eqb, inl, inr}
use Rattle.std.specs.List.{range_with_len}
use Rattle.std.proofs.lemmas.Bool.{cases_lt}
use Rattle.std.proofs.lemmas.List.FromFn.{get_or-map-range_with_len, length-map-range_with_len}
use Rattle.std.proofs.lemmas.List.Elements.{All-cons}
use Rattle.mixed_model.specs.Entries.{RowEntry}
use Rattle.mixed_model.specs.Names.{IsNameList}
use Rattle.mixed_model.specs.Rows.{IsNotEmpty, IsRow, AreColumnsBelow, RisesFrom, constant_in, constant_at_place, entry_in}
use Rattle.mixed_model.specs.Rows.{symbol_in, symbol_at_place}
use Rattle.mixed_model.specs.Models.{MixedModel, IsModel, constant_at, symbol_of}
use Rattle.mixed_model.proofs.RowLaws.{rises_earlier}

-- a row with a place before it: where neither a constant nor a symbol stands there, no entry
place : ℕ → ℕ → Bool → List RowEntry → List RowEntry
place column zero false row = row
place column zero true row = record { column = column; constant = None; symbol = true } ∷ row
place column (suc n) symbol row = record { column = column; constant = Some (suc n); symbol = symbol } ∷ row

-- from a column on, so many places
places : (ℕ → ℕ) → (ℕ → Bool) → ℕ → ℕ → List RowEntry
places constant symbol first zero = []
places constant symbol first (suc n) = place first (constant first) (symbol first) (places constant symbol (first + 1) n)

-- nothing stands before the first column
none-before : (p first column : ℕ) (row : List RowEntry) → RisesFrom p first row → column < first → entry_in row column ≡ None
none-before p first column [] rises before = refl
none-before p first column (entry ∷ row) rises before =
    rw (ne_eqb entry.column column (λ same. omega (arith, rises.0, same)))
    (none-before p (entry.column + 1) column row rises.2 (omega (arith, rises.0)))

filled-symbol : (p column : ℕ) → IsNotEmpty p (record { column = column; constant = None; symbol = true })
filled-symbol p column = record {
  some = refl;
  positive = λ c e. let f : None ≡ Some c = e in absurd cc;
  residue = λ c e. let f : None ≡ Some c = e in absurd cc;
}

filled-constant : (p column n : ℕ) (symbol : Bool) → suc n < p → IsNotEmpty p (record { column = column; constant = Some (suc n); symbol = symbol })
filled-constant p column n symbol small = record {
  some = refl;
  positive = λ c e. let same : suc n ≡ c = ap (λ o. unwrap_or o 0) e in omega (arith, same);
  residue = λ c e. let same : suc n ≡ c = ap (λ o. unwrap_or o 0) e in omega (arith, same, small);
}

-- a row that rises, within columns, with these constants and symbols from a column on
record IsPlaced (p first columns : ℕ) (constant : ℕ → ℕ) (symbol : ℕ → Bool) (row : List RowEntry) : Type 0 where
  pub rises : RisesFrom p first row
  pub within : AreColumnsBelow columns row
  pub constants : (j : ℕ) → first ≤ j → j < columns → unwrap_or (constant_in row j) 0 ≡ constant j
  pub symbols : (j : ℕ) → first ≤ j → j < columns → symbol_in row j ≡ symbol j

-- one place more
module _ (p column columns : ℕ) (row : List RowEntry) (rises : RisesFrom p (column + 1) row) (within : AreColumnsBelow columns row) (room : column < columns)
  where
    -- the row with this place
    record IsPut (c : ℕ) (s : Bool) (new : List RowEntry) : Type 0 where
      pub rises_now : RisesFrom p column new
      pub within_now : AreColumnsBelow columns new
      pub constant_here : unwrap_or (constant_in new column) 0 ≡ c
      pub symbol_here : symbol_in new column ≡ s
      pub others : (j : ℕ) → column < j → entry_in new j ≡ entry_in row j

    entry_put : (c : ℕ) (s : Bool) (entry : RowEntry) → entry.column ≡ column → IsNotEmpty p entry →
        unwrap_or entry.constant 0 ≡ c → entry.symbol ≡ s → IsPut c s (entry ∷ row)
    entry_put c s entry at filled constant symbol = record {
      rises_now = (omega (arith, at), filled, subst (λ k. RisesFrom p (k + 1) row) (sym at) rises);
      within_now = All-cons (λ entry. entry.column < columns) entry row (omega (arith, at, room)) within;
      constant_here = ap (λ o. unwrap_or (constant_at_place o) 0) here ∙ constant;
      symbol_here = ap symbol_at_place here ∙ symbol;
      others = λ j later. rw (ne_eqb entry.column j (λ same. omega (arith, same, at, later))) refl;
    }
      where
        here : entry_in (entry ∷ row) column ≡ Some entry
        here = rw (eq-eqb entry.column column at) refl

    place_put : (c : ℕ) (s : Bool) → c < p → IsPut c s (place column c s row)
    unfolding place
    place_put zero false small =
        let none = none-before p (column + 1) column row rises (omega arith) in
        record {
          rises_now = rises_earlier p column (column + 1) row (omega arith) rises;
          within_now = within;
          constant_here = ap (λ o. unwrap_or (constant_at_place o) 0) none;
          symbol_here = ap symbol_at_place none;
          others = λ j later. refl;
        }
    place_put zero true small = entry_put 0 true (record { column = column; constant = None; symbol = true }) refl (filled-symbol p column) refl refl
    place_put (suc n) s small =
        entry_put (suc n) s (record { column = column; constant = Some (suc n); symbol = s }) refl (filled-constant p column n s small) refl refl

places_placed : (p columns : ℕ) (constant : ℕ → ℕ) (symbol : ℕ → Bool) → ((j : ℕ) → j < columns → constant j < p) →
    (first n : ℕ) → first + n ≡ columns → IsPlaced p first columns constant symbol (places constant symbol first n)
unfolding places
places_placed p columns constant symbol small first zero all = record {
  rises = tt;
  within = λ i d at. absurd (omega arith);
  constants = λ j low high. absurd (omega (arith, all));
  symbols = λ j low high. absurd (omega (arith, all));
}
places_placed p columns constant symbol small first (suc n) all =
    let row = places constant symbol (first + 1) n in
    let rest : IsPlaced p (first + 1) columns constant symbol row = places_placed p columns constant symbol small (first + 1) n (omega (arith, all)) in
    let room : first < columns = omega (arith, all) in
    let put = place_put p first columns row rest.rises rest.within room (constant first) (symbol first) (small first room) in
    record {
      rises = put.rises_now;
      within = put.within_now;
      constants = λ j low high. elim (cases_lt first j) [
        | inl later ↦ ap (λ o. unwrap_or (constant_at_place o) 0) (put.others j later) ∙ rest.constants j (omega (arith, later)) high
        | inr here ↦ let same : first ≡ j = omega (arith, low, here) in
            subst (λ k. unwrap_or (constant_in (place first (constant first) (symbol first) row) k) 0 ≡ constant k) same put.constant_here
      ];
      symbols = λ j low high. elim (cases_lt first j) [
        | inl later ↦ ap symbol_at_place (put.others j later) ∙ rest.symbols j (omega (arith, later)) high
        | inr here ↦ let same : first ≡ j = omega (arith, low, here) in
            subst (λ k. symbol_in (place first (constant first) (symbol first) row) k ≡ symbol k) same put.symbol_here
      ];
    }

-- A model with these names, and this constant and this symbol at each place.
pub record Has (p : ℕ) (equations unknowns : List (List ℕ)) (constant : ℕ → ℕ → ℕ) (symbol : ℕ → ℕ → Bool) (model : MixedModel) : Type 0 where
  pub is_model : IsModel p model
  pub equations_are : model.equations ≡ equations
  pub unknowns_are : model.unknowns ≡ unknowns
  pub constants_are : (i j : ℕ) → i < length equations → j < length unknowns → constant_at model i j ≡ constant i j
  pub symbols_are : (i j : ℕ) → i < length equations → j < length unknowns → symbol_of model i j ≡ symbol i j

-- names and residues have a model
module _ (p : ℕ) (equations unknowns : List (List ℕ)) (constant : ℕ → ℕ → ℕ) (symbol : ℕ → ℕ → Bool) (rows_named : IsNameList equations)
    (columns_named : IsNameList unknowns)
    (small : (i j : ℕ) → i < length equations → j < length unknowns → constant i j < p) where
  row_made : ℕ → List RowEntry
  row_made i = places (constant i) (symbol i) 0 (length unknowns)

  row_placed : (i : ℕ) → i < length equations → IsPlaced p 0 (length unknowns) (constant i) (symbol i) (row_made i)
  unfolding row_made
  row_placed i at = places_placed p (length unknowns) (constant i) (symbol i) (λ j col. small i j at col) 0 (length unknowns) (omega arith)

  abbrev rows_made : List (List RowEntry)
  rows_made = map row_made (range_with_len 0 (length equations))

  row_at : (i : ℕ) (d : List RowEntry) → i < length equations → get_or rows_made i d ≡ row_made i
  row_at i d at = get_or-map-range_with_len row_made 0 (length equations) i i d at (omega arith)

  counted : length rows_made ≡ length equations
  counted = length-map-range_with_len row_made 0 (length equations)

  pub model_made : (model : MixedModel) × Has p equations unknowns constant symbol model
  model_made = (
    record { equations = equations; unknowns = unknowns; rows = rows_made },
    record {
      is_model = record {
        equations = rows_named;
        unknowns = columns_named;
        one_row_each = counted;
        rows = λ i d at.
            let here : i < length equations = omega (arith, at, counted) in
            let placed = row_placed i here in
            subst (λ row. IsRow p row × AreColumnsBelow (length unknowns) row) (sym (row_at i d here)) (placed.rises, placed.within);
      };
      equations_are = refl;
      unknowns_are = refl;
      constants_are = λ i j at col. ap (λ row. unwrap_or (constant_in row j) 0) (row_at i [] at) ∙ (row_placed i at).constants j (omega arith) col;
      symbols_are = λ i j at col. ap (λ row. symbol_in row j) (row_at i [] at) ∙ (row_placed i at).symbols j (omega arith) col;
    },
  )
