-- The part of each row, by the list of its column.
use Rattle.std.proofs.Common.{◌≡◌, ℕ, ◌<◌, ◌⊎◌, inl, inr, Bool, true, eqb, List, length, get_or, slice_get, Some, refl, sym, ◌∙◌, subst}
use Rattle.std.proofs.lemmas.Option.{get_or_from_slice_get, slice_get-get_or}
use Rattle.residue_theory.proofs.SumLaws.{nat_cases}
use Rattle.residue_theory.proofs.SetLaws.{eqb_from, search_below, some_below-holds}
use Rattle.cert_text.specs.Readings.{pair_at, has_column, row_with}
use Rattle.cert_text.proofs.PairLists.{has-found}
use Rattle.minimiser_lattice.specs.Parts.{PlaceParts, part_in}
use Rattle.minimiser_lattice.specs.declared.lattice.Part.{Part}
use Rattle.minimiser_lattice.specs.declared.lattice.Part.TheVariants.{Last}
use Rattle.ccf_builder.specs.Pairs.{ListsPairs}
use Rattle.ccf_builder.specs.Placings.{PlacesColumns, PlacesRows}
use Rattle.ccf_builder.proofs.PairLists.{column-below, column-same, row-of, row-same}
use Rattle.ccf_builder.proofs.PartLists.{IsOfBlocks}

-- a list of pairs of rows and columns, and the parts of both
module _ (Has : ℕ → ℕ → Type 0) (m n : ℕ) (pairs : List (ℕ × ℕ)) (lists : ListsPairs Has m pairs) (B : ℕ → Bool) (row : ℕ → ℕ)
    (told : (r y : ℕ) → Has r y → (y < n) × (B y ≡ true) × (row y ≡ r)) (has : (y : ℕ) → y < n → B y ≡ true →
    Has (row y) y) (low : (y : ℕ) → y < n → B y ≡ true → row y < m)
    (v : PlaceParts) (columns rows : List Part) (wide : v.places ≡ n) (of_columns : PlacesColumns v columns) (of_rows : PlacesRows m pairs columns rows)
    (bounded : (x : ℕ) → x < n → IsOfBlocks v.blocks (part_in v x)) where
  -- the part of a row
  abbrev pub part_of_row : ℕ → Part
  part_of_row i = get_or rows i Last

  pub row-part : (i : ℕ) → i < m → slice_get rows i ≡ Some (part_of_row i)
  row-part i il = slice_get-get_or rows i Last (subst (λ k. i < k) (sym of_rows.count) il)

  pub paired-part : (k : ℕ) → k < length pairs → part_of_row (pair_at pairs k).0 ≡ part_in v (pair_at pairs k).1
  paired-part k kl =
      let column : (pair_at pairs k).1 < v.places = subst (λ c. (pair_at pairs k).1 < c) (sym wide)
      (column-below Has m n pairs lists B row told has low k kl) in
      get_or_from_slice_get rows (pair_at pairs k).0 (part_in v (pair_at pairs k).1) Last (of_rows.listed k kl ∙ of_columns.at (pair_at pairs k).1 column)

  -- a row has a pair or none
  pub row-cases : (i : ℕ) → ((k : ℕ) × (k < length pairs) × ((pair_at pairs k).0 ≡ i)) ⊎ ((k : ℕ) → k < length pairs → (pair_at pairs k).0 ≡ i → ⊥)
  row-cases i = search_below (length pairs) (λ k. (pair_at pairs k).0 ≡ i) (λ k _. nat_cases (pair_at pairs k).0 i)

  pub lone-part : (i : ℕ) → i < m → ((k : ℕ) → k < length pairs → (pair_at pairs k).0 ≡ i → ⊥) → part_of_row i ≡ Last
  lone-part i il none = get_or_from_slice_get rows i Last Last (of_rows.others i il none)

  pub row-bounded : (i : ℕ) → i < m → IsOfBlocks v.blocks (part_of_row i)
  row-bounded i il = elim (row-cases i) [
    | inl (k, kl, same) ↦ subst (λ r. IsOfBlocks v.blocks (part_of_row r)) same
        (subst (λ q. IsOfBlocks v.blocks q) (sym (paired-part k kl))
        (bounded (pair_at pairs k).1 (column-below Has m n pairs lists B row told has low k kl)))
    | inr none ↦ subst (λ q. IsOfBlocks v.blocks q) (sym (lone-part i il none)) tt
  ]

  -- the part of a row is that of its column
  pub column-part : (y : ℕ) → has_column pairs y ≡ true → part_of_row (row_with pairs y) ≡ part_in v y
  column-part y h = let at = has-found pairs y h in subst (λ r. part_of_row r ≡ part_in v y) at.3
      (subst (λ c. part_of_row (pair_at pairs at.0).0 ≡ part_in v c) at.2 (paired-part at.0 at.1))

  pub row-with-below : (y : ℕ) → has_column pairs y ≡ true → row_with pairs y < m
  row-with-below y h = let at = has-found pairs y h in subst (λ r. r < m) at.3 (lists.below at.0 at.1)

  -- a row that no column of the list has stands in the last part
  pub bare-part : (i : ℕ) → i < m → ((y : ℕ) → y < n → has_column pairs y ≡ true → row_with pairs y ≡ i → ⊥) → part_of_row i ≡ Last
  bare-part i il bare = lone-part i il (λ k kl same.
      let y : ℕ = (pair_at pairs k).1 in
      let yl : y < n = column-below Has m n pairs lists B row told has low k kl in
      let member : has_column pairs y ≡ true = some_below-holds (length pairs) (λ l. eqb (pair_at pairs l).1 y) k kl (eqb_from y y refl) in
      let in_b : B y ≡ true = sym (column-same Has m n pairs lists B row told has low y yl) ∙ member in
      bare y yl member (row-same Has m n pairs lists B row told has low y yl in_b ∙ row-of Has m n pairs lists B row told has low k kl ∙ same))
