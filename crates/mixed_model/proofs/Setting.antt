-- A column that is set to a constant and a symbol, or emptied.
use Rattle.std.proofs.Common.{◌≡◌, ℕ, zero, suc, ◌+◌, ◌<◌, Bool, true, false, cond, List, [], ◌∷◌, length, get_or}
use Rattle.std.proofs.Common.{Some, None, refl, sym, ap, ◌∙◌, arith, eqb, eqb-true}
use Rattle.std.specs.List.{remove}
use Rattle.mixed_model.specs.Entries.{RowEntry}
use Rattle.mixed_model.specs.Rows.{entry_in, constant_at_place, symbol_at_place}
use Rattle.mixed_model.specs.Rows.{RisesFrom, IsRow, StandsAt, PutsEntry, SetsColumn}
use Rattle.mixed_model.proofs.ListLaws.{All-remove}
use Rattle.mixed_model.proofs.RowLaws.{past_first, entry_in-before, rises_from, rises_earlier}

-- what is told of one of two
told : {X A : Type 0} (tells : X → A) (b : Bool) (x y : X) → tells (cond b x y) ≡ cond b (tells x) (tells y)
told tells true x y = refl
told tells false x y = refl

module _ (p : ℕ) where
  -- an entry taken out
  entry_in-remove : (first : ℕ) (row : List RowEntry) → RisesFrom p first row → (place column other : ℕ) (d : RowEntry) →
      place < length row → (get_or row place d).column ≡ column →
      entry_in (remove row place) other ≡ cond (eqb column other) None (entry_in row other)
  entry_in-remove first [] rises place column other d within same = absurd (omega arith)
  entry_in-remove first (next ∷ row) rises zero column other d within same = by (eqb column other) refl
    where
      by : (b : Bool) → eqb column other ≡ b → entry_in row other ≡ cond b None (entry_in (next ∷ row) other)
      by true e = entry_in-before p (next.column + 1) row rises.2 other (omega (arith, same, eqb-true column other e))
      by false e = rw (ap (λ c. eqb c other) same ∙ e) refl
  entry_in-remove first (next ∷ row) rises (suc place) column other d within same =
      let later = rises_from p (next.column + 1) row rises.2 place d (omega arith) in
      past_first next None column other (remove row place) row (omega (arith, later, same))
      (entry_in-remove (next.column + 1) row rises.2 place column other d (omega arith) same)

  RisesFrom-remove : (first : ℕ) (row : List RowEntry) (place : ℕ) → RisesFrom p first row → place < length row →
      RisesFrom p first (remove row place)
  RisesFrom-remove first [] place rises within = absurd (omega arith)
  RisesFrom-remove first (next ∷ row) zero rises within = rises_earlier p first (next.column + 1) row (omega (arith, rises.0)) rises.2
  RisesFrom-remove first (next ∷ row) (suc place) rises within =
      (rises.0, rises.1, RisesFrom-remove (next.column + 1) row place rises.2 (omega arith))

  module _ (row : List RowEntry) (rises : IsRow p row) where
    -- an entry that is put sets its column
    pub sets_column : (new : List RowEntry) (entry : RowEntry) → PutsEntry p row new entry →
        SetsColumn p entry.column entry.constant entry.symbol row new
    sets_column new entry puts = record {
      constants = λ other. ap constant_at_place (puts.entries other)
          ∙ told constant_at_place (eqb entry.column other) (Some entry) (entry_in row other);
      symbols = λ other. ap symbol_at_place (puts.entries other)
          ∙ told symbol_at_place (eqb entry.column other) (Some entry) (entry_in row other);
      row = puts.row;
      within = puts.within;
    }

    -- an entry that is taken out leaves its column empty
    pub place_emptied : (place column : ℕ) → StandsAt row place column → SetsColumn p column None false row (remove row place)
    place_emptied place column stands = record {
      constants = λ other. ap constant_at_place (left other) ∙ told constant_at_place (eqb column other) None (entry_in row other);
      symbols = λ other. ap symbol_at_place (left other) ∙ told symbol_at_place (eqb column other) None (entry_in row other);
      row = RisesFrom-remove 0 row place rises stands.within;
      within = λ columns at below. All-remove (λ entry. entry.column < columns) row place stands.within below;
    }
      where
        d : RowEntry
        d = record { column = 0; constant = None; symbol = false }

        left : (other : ℕ) → entry_in (remove row place) other ≡ cond (eqb column other) None (entry_in row other)
        left other = entry_in-remove 0 row rises place column other d stands.within (stands.column_is d)

    -- a column where nothing stands is empty
    pub column_empty : (column : ℕ) → entry_in row column ≡ None → SetsColumn p column None false row row
    column_empty column absent = record {
      constants = λ other. ap constant_at_place (same other) ∙ told constant_at_place (eqb column other) None (entry_in row other);
      symbols = λ other. ap symbol_at_place (same other) ∙ told symbol_at_place (eqb column other) None (entry_in row other);
      row = rises;
      within = λ columns at below. below;
    }
      where
        by : (other : ℕ) (b : Bool) → eqb column other ≡ b → entry_in row other ≡ cond b None (entry_in row other)
        by other true e = ap (entry_in row) (sym (eqb-true column other e)) ∙ absent
        by other false e = refl

        same : (other : ℕ) → entry_in row other ≡ cond (eqb column other) None (entry_in row other)
        same other = by other (eqb column other) refl
