-- The rows that an echelon keeps, and what they are in its state.
use Rattle.std.proofs.Common.{◌≡◌, ℕ, ◌<◌, List, [], length, map, slice_index_or, refl, ap, sym, subst, ◌∙◌, arith}
use Rattle.std.proofs.lemmas.List.{get_or-map, length-map}
use Rattle.std.specs.List.{All}
use Rattle.row_entries.specs.Rows.{EndsBefore, Item, items}
use Rattle.row_entries.specs.declared.entry.Entry.{Entry}
use Rattle.row_entries.proofs.RowLaws.{item}
use Rattle.row_echelon.specs.Echelons.{EchelonState, PivotItems, pivot_row}
use Rattle.row_echelon.specs.declared.pivot_row.PivotRow.{PivotRow}
use Rattle.row_echelon.proofs.EntrySums.{item_count}

-- a list of rows, and a slice of it
module _ {A : Type 0} {slice rows : List A} (same : slice ≡ rows) (k : ℕ) where
  pub stored-below : k < length slice → k < length rows
  stored-below l = subst (λ xs. k < length xs) same l

  pub stored-item : (r : A) → r ≡ slice_index_or slice k r → r ≡ slice_index_or rows k r
  stored-item r is = is ∙ ap (λ xs. slice_index_or xs k r) same

module _ {T : Type 0} (number : T → ℕ) where
  abbrev pub seen : PivotRow T → PivotItems
  seen r = record { lead = r.lead; right = number r.right; items = items number r.entries.items }

  abbrev pub state_of : ℕ → List (PivotRow T) → EchelonState
  state_of w rows = record { width = w; rows = map seen rows }

  pub stored-count : (w : ℕ) (rows : List (PivotRow T)) (e : EchelonState) → state_of w rows ≡ e → length e.rows ≡ length rows
  stored-count w rows e is = ap (λ (s : EchelonState). length s.rows) (sym is) ∙ length-map rows seen

  pub stored-row : (w : ℕ) (rows : List (PivotRow T)) (e : EchelonState) → state_of w rows ≡ e → (k : ℕ) (r : PivotRow T) →
      k < length rows → r ≡ slice_index_or rows k r → pivot_row e k ≡ seen r
  stored-row w rows e is k r l at =
      ap (λ (s : EchelonState). pivot_row s k) (sym is)
      ∙ get_or-map seen rows k r (record { lead = 0; right = 0; items = [] }) l ∙ ap seen (sym at)

  -- the entries of a row within its columns
  pub entries-within : (n : ℕ) (entries : List (Entry T)) → EndsBefore (items number entries) n → All (λ entry. entry.column < n) entries
  entries-within n entries ends k d l =
      subst (λ (x : Item). x.column < n) (get_or-map (λ x. item x.column (number x.value)) entries k d (item 0 0) l)
      (ends k (omega (arith, l, item_count number entries)))
