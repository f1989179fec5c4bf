-- Rows that get the parts of their columns, pair by pair.
use Rattle.std.proofs.Common.{◌≡◌, ◌≢◌, ℕ, ◌+◌, ◌<◌, List, length, replicate, slice_get, slice_set, Some, inl, inr, ap, sym, ◌∙◌, subst, arith}
use Rattle.std.proofs.lemmas.List.{get_or-replicate, get_or-set_other, get_or-set_same, length-replicate, length-set}
use Rattle.std.proofs.lemmas.Option.{slice_get-get_or}
use Rattle.residue_theory.proofs.SumLaws.{nat_cases}
use Rattle.cert_text.specs.Readings.{pair_at}
use Rattle.minimiser_lattice.specs.declared.lattice.Part.{Part}
use Rattle.minimiser_lattice.specs.declared.lattice.Part.TheVariants.{Last}
use Rattle.ccf_builder.specs.Pairs.{AreWithin}
use Rattle.ccf_builder.specs.Placings.{PlacesRows}

-- the rows of the first `n` pairs have the parts of their columns, and the others the last one
pub record IsPlacedTo (m : ℕ) (pairs : List (ℕ × ℕ)) (columns : List Part) (n : ℕ) (rows : List Part) : Type 0 where
  pub count : length rows ≡ m
  pub listed : (k : ℕ) → k < n → slice_get rows (pair_at pairs k).0 ≡ slice_get columns (pair_at pairs k).1
  pub others : (i : ℕ) → i < m → ((k : ℕ) → k < n → (pair_at pairs k).0 ≡ i → ⊥) → slice_get rows i ≡ Some Last

pub placed-none : (m : ℕ) (pairs : List (ℕ × ℕ)) (columns : List Part) → IsPlacedTo m pairs columns 0 (replicate m Last)
placed-none m pairs columns = record {
  count = length-replicate m Last;
  listed = λ k low. absurd (omega (arith, low));
  others = λ i low _.
      let long : length (replicate m Last) ≡ m = length-replicate m Last in
      slice_get-get_or (replicate m Last) i Last (omega (arith, long, low)) ∙ ap Some (get_or-replicate m i Last Last low);
}

module _ (m : ℕ) (pairs : List (ℕ × ℕ)) (columns : List Part) (within : AreWithin m (length columns) pairs) where
  -- the row of one pair more has the part of its column
  pub placed-more : (n : ℕ) (rows : List Part) (part : Part) → IsPlacedTo m pairs columns n rows → n < length pairs →
      slice_get columns (pair_at pairs n).1 ≡ Some part →
      IsPlacedTo m pairs columns (n + 1) (slice_set rows (pair_at pairs n).0 part)
  placed-more n rows part placed low is = record {
    count = length-set rows (pair_at pairs n).0 part ∙ placed.count;
    listed = λ k kl. elim (nat_cases k n) [
      | inl same ↦ subst (λ l. slice_get (slice_set rows (pair_at pairs n).0 part) (pair_at pairs l).0 ≡ slice_get columns (pair_at pairs l).1) (sym same) here
      | inr other ↦
          let before : k < n = omega (arith, kl, other) in
          let less : (pair_at pairs k).0 < (pair_at pairs n).0 = within.rising k n before low in
          apart (pair_at pairs k).0 (within.row k (omega (arith, before, low))) (λ e. absurd (omega (arith, less, e))) ∙ placed.listed k before
    ];
    others = λ i il none.
        apart i il (λ e. none n (omega arith) (sym e)) ∙ placed.others i il (λ k kl e. none k (omega (arith, kl)) e);
  }
    where
      long : length (slice_set rows (pair_at pairs n).0 part) ≡ length rows
      long = length-set rows (pair_at pairs n).0 part

      row : (pair_at pairs n).0 < length rows
      row = subst (λ c. (pair_at pairs n).0 < c) (sym placed.count) (within.row n low)

      here : slice_get (slice_set rows (pair_at pairs n).0 part) (pair_at pairs n).0 ≡ slice_get columns (pair_at pairs n).1
      here = slice_get-get_or (slice_set rows (pair_at pairs n).0 part) (pair_at pairs n).0 part (subst (λ c. (pair_at pairs n).0 < c) (sym long) row)
          ∙ ap Some (get_or-set_same rows (pair_at pairs n).0 part part row) ∙ sym is

      apart : (i : ℕ) → i < m → i ≢ (pair_at pairs n).0 → slice_get (slice_set rows (pair_at pairs n).0 part) i ≡ slice_get rows i
      apart i il other =
          let inside : i < length rows = subst (λ c. i < c) (sym placed.count) il in
          slice_get-get_or (slice_set rows (pair_at pairs n).0 part) i part (subst (λ c. i < c) (sym long) inside)
          ∙ ap Some (get_or-set_other rows (pair_at pairs n).0 i part part other) ∙ sym (slice_get-get_or rows i part inside)

  pub placed-all : (rows : List Part) → IsPlacedTo m pairs columns (length pairs) rows → PlacesRows m pairs columns rows
  placed-all rows placed = record { count = placed.count; listed = placed.listed; others = placed.others }
