-- The places of the symbols of a row, from entry to entry.
use Rattle.std.proofs.Common.{◌≡◌, ℕ, suc, ◌+◌, ◌<◌, ◌≤◌, Bool, true, false, cond, eqb, eqb-true, eq-eqb, ne_eqb, List, [], ◌∷◌}
use Rattle.std.proofs.Common.{◌++◌, length, Some, None, nat_eq, refl, sym, ap, subst, ◌∙◌, arith, inl, inr, length-append}
use Rattle.std.proofs.Math.Seq.{get_or-append_seam}
use Rattle.residue_theory.proofs.SetLaws.{lt_cases}
use Rattle.mixed_matrices.specs.Models.{MixedMatrix}
use Rattle.mixed_model.specs.Entries.{RowEntry}
use Rattle.mixed_model.specs.Models.{MixedModel, mixed_matrix_of, row_of, symbol_of}
use Rattle.mixed_model.specs.Rows.{AreColumnsBelow, IsRow, RisesFrom, entry_in, symbol_at_place, symbol_in}
use Rattle.mixed_model.proofs.ModelLaws.{beyond_unknowns}
use Rattle.mixed_model.proofs.RowLaws.{entry_in-None, entry_in-lower, entry_in-next, rises_from}
use Rattle.symbol_places.specs.PlacesBefore.{AreSymbolPlacesBefore}
use Rattle.symbol_places.specs.declared.places.SymbolPlace.{SymbolPlace}
use Rattle.symbol_places.proofs.PlaceSteps.{places-gap, places-next, places-turn}

-- These are the places of the symbols before each column at which the seen entries of row i end: they have the symbols
-- of the row before it, and none from it on.
abbrev pub SeenPlaces : MixedMatrix → ℕ → List RowEntry → List SymbolPlace → Type 0
SeenPlaces M i seen places = (j : ℕ) → ((b : ℕ) → b < j → M.symbol i b ≡ symbol_in seen b) →
    ((b : ℕ) → j ≤ b → symbol_in seen b ≡ false) → AreSymbolPlacesBefore M i j places

pub seen-start : (M : MixedMatrix) (i : ℕ) (places : List SymbolPlace) → AreSymbolPlacesBefore M i 0 places → SeenPlaces M i [] places
seen-start M i places are j exact none = places-gap M i 0 j places (omega arith) (λ b at low. exact b low) are

-- nothing at a column stands behind the first entries of a row
entry_in-left : (xs ys : List RowEntry) (b : ℕ) → entry_in ys b ≡ None → entry_in (xs ++ ys) b ≡ entry_in xs b
entry_in-left [] ys b none = none
entry_in-left (x ∷ xs) ys b none = ap (cond (nat_eq x.column b) (Some x)) (entry_in-left xs ys b none)

-- entries from one on rise from its column on
rises-behind : (p first : ℕ) (xs : List RowEntry) (entry : RowEntry) (rest : List RowEntry) → RisesFrom p first (xs ++ entry ∷ rest) →
    RisesFrom p entry.column (entry ∷ rest)
rises-behind p first [] entry rest rises = (omega arith, rises.1, rises.2)
rises-behind p first (x ∷ xs) entry rest rises = rises-behind p (x.column + 1) xs entry rest rises.2

module _ (p : ℕ) (model : MixedModel) (i : ℕ) (seen : List RowEntry) (entry : RowEntry) (rest : List RowEntry)
    (is_row : IsRow p (row_of model i)) (split : row_of model i ≡ seen ++ entry ∷ rest) where
  abbrev M : MixedMatrix
  M = mixed_matrix_of model

  rises : IsRow p (seen ++ entry ∷ rest)
  rises = subst (IsRow p) split is_row

  -- the seen entries have the symbols before its column, and none from it on
  symbol-before : (b : ℕ) → b < entry.column → symbol_of model i b ≡ symbol_in seen b
  symbol-before b low = ap (λ row. symbol_in row b) split ∙ ap symbol_at_place (entry_in-left seen (entry ∷ rest) b absent)
    where
      absent : entry_in (entry ∷ rest) b ≡ None
      absent = entry_in-None (entry ∷ rest) b (λ k d at same.
          let higher = rises_from p entry.column (entry ∷ rest) (rises-behind p 0 seen entry rest rises) k d at in
          omega (arith, low, higher, same))

  symbol-not_yet : (b : ℕ) → entry.column ≤ b → symbol_in seen b ≡ false
  symbol-not_yet b at = ap symbol_at_place (entry_in-lower p 0 seen entry rest rises b at)

  symbol-next : (b : ℕ) → symbol_in (seen ++ entry ∷ []) b ≡ cond (eqb entry.column b) entry.symbol (symbol_in seen b)
  symbol-next b = ap symbol_at_place (entry_in-next p 0 seen entry rest b rises) ∙ by (eqb entry.column b)
    where
      by : (t : Bool) → symbol_at_place (cond t (Some entry) (entry_in seen b)) ≡ cond t entry.symbol (symbol_in seen b)
      by true = refl
      by false = refl

  -- an entry without a symbol
  pub seen-skip : (places : List SymbolPlace) → entry.symbol ≡ false → SeenPlaces M i seen places → SeenPlaces M i (seen ++ entry ∷ []) places
  seen-skip places is so_far j exact none = so_far j (λ b low. exact b low ∙ same b) (λ b at. sym (same b) ∙ none b at)
    where
      same : (b : ℕ) → symbol_in (seen ++ entry ∷ []) b ≡ symbol_in seen b
      same b = symbol-next b ∙ by (eqb entry.column b) refl
        where
          by : (t : Bool) → eqb entry.column b ≡ t → cond t entry.symbol (symbol_in seen b) ≡ symbol_in seen b
          by true e = is ∙ sym (symbol-not_yet b (omega (arith, eqb-true entry.column b e)))
          by false e = refl

  -- an entry with one
  pub seen-next : (places : List SymbolPlace) → i < length model.equations → AreColumnsBelow (length model.unknowns) (row_of model i) →
      entry.symbol ≡ true → SeenPlaces M i seen places →
      SeenPlaces M i (seen ++ entry ∷ []) (places ++ record { equation = i; unknown = entry.column } ∷ [])
  seen-next places equation below is so_far j exact none = elim (lt_cases entry.column j) [
    | inl inside ↦ places-gap M i (suc entry.column) j (places ++ record { equation = i; unknown = entry.column } ∷ []) (omega arith)
        (λ b at low. exact b low ∙ symbol-next b ∙ ap (λ t. cond t entry.symbol (symbol_in seen b)) (ne_eqb entry.column b (λ e. omega (arith, e, at)))
        ∙ symbol-not_yet b (omega arith))
        (places-next M i entry.column places (equation, within, exact entry.column inside ∙ there) here)
    | inr past ↦ absurd (let both : true ≡ false = sym there ∙ none entry.column past in cc)
  ]
    where
      here : AreSymbolPlacesBefore M i entry.column places
      here = so_far entry.column symbol-before symbol-not_yet

      there : symbol_in (seen ++ entry ∷ []) entry.column ≡ true
      there = symbol-next entry.column
          ∙ ap (λ t. cond t entry.symbol (symbol_in seen entry.column)) (eq-eqb entry.column entry.column refl) ∙ is

      within : entry.column < length model.unknowns
      within =
          let at = subst (AreColumnsBelow (length model.unknowns)) split below (length seen) entry (omega (arith, length-append seen (entry ∷ rest))) in
          subst (λ (x : RowEntry). x.column < length model.unknowns) (get_or-append_seam seen entry rest entry) at

-- all entries
pub seen-row : (model : MixedModel) (i : ℕ) (seen : List RowEntry) (places : List SymbolPlace) →
    AreColumnsBelow (length model.unknowns) (row_of model i) → row_of model i ≡ seen → SeenPlaces (mixed_matrix_of model) i seen places →
    AreSymbolPlacesBefore (mixed_matrix_of model) (i + 1) 0 places
seen-row model i seen places below whole so_far =
    let e : suc i ≡ i + 1 = omega arith in
    subst (λ n. AreSymbolPlacesBefore (mixed_matrix_of model) n 0 places) e (places-turn (mixed_matrix_of model) i places
    (so_far (length model.unknowns) (λ b low. ap (λ row. symbol_in row b) whole) (λ b at.
    sym (ap (λ row. symbol_in row b) whole) ∙ (beyond_unknowns (length model.unknowns) (row_of model i) b below at).1)))
