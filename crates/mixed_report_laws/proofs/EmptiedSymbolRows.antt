-- A layered matrix with one T row emptied: its rank falls exactly where some minimiser touches the row.
use Rattle.std.proofs.Common.{◌≡◌, ℕ, ◌<◌, ◌≤◌, ◌≢◌, Bool, true, false, ◌&&◌, inl, inr, refl, subst, ◌∙◌, arith}
use Rattle.residue_theory.proofs.SetLaws.{both-first, both-second, both_true, differ, le_cases, some_below-found, some_below-holds}
use Rattle.residue_theory.proofs.SumLaws.{member-without, size_on-within, sum_on-without, without-member}
use Rattle.residue_theory.specs.Residues.{IsPrime}
use Rattle.residue_theory.specs.Sets.{both, everything, without}
use Rattle.residue_theory.specs.Sums.{size_on}
use Rattle.linear_algebra_laws.proofs.Ranks.{rank_exists}
use Rattle.mixed_matrices.specs.LayeredMatrices.{LayeredMatrix, layered_part}
use Rattle.mixed_matrices.specs.SetFunctions.{IsMinimiser, IsRho, gamma, touches_set}
use Rattle.mixed_matrices.specs.StructuralRanks.{IsLayeredRank}
use Rattle.mixed_pair_laws.proofs.MinMax.{minimiser-reached, rank-at_most, reached-minimiser}
use Rattle.mixed_report_laws.proofs.EmptiedParts.{LeastBound, layered_part-rank, least_bound}
use Rattle.mixed_report_laws.proofs.PartEntries.{symbol-kept}

module _ (p : ℕ) (prime : IsPrime p) (L : LayeredMatrix) (d : ℕ) (dl : d < L.t_rows) where
  abbrev emptied : LayeredMatrix
  emptied = layered_part everything (without everything d) everything L

  pub symbol-part : (i j : ℕ) → emptied.t i j ≡ true → (L.t i j ≡ true) × (i ≢ d)
  symbol-part i j h = (last (without everything d i) (L.t i j) h, (without-member everything d i (first (without everything d i) (L.t i j) h)).1)
    where
      first : (w x : Bool) → w && true && x ≡ true → w ≡ true
      first w x h = grind arith

      last : (w x : Bool) → w && true && x ≡ true → x ≡ true
      last w x h = grind arith

  symbol-left : (i j : ℕ) → L.t i j ≡ true → i ≢ d → emptied.t i j ≡ true
  symbol-left i j s ne = symbol-kept (without everything d i) (L.t i j) (member-without everything d i refl ne) ∙ s

  touches-part : (X : ℕ → Bool) (i : ℕ) → touches_set emptied X i ≡ true → without (touches_set L X) d i ≡ true
  touches-part X i h =
      let f : (j : ℕ) × (j < L.columns) × (both X (emptied.t i) j ≡ true) = some_below-found L.columns (both X (emptied.t i)) h in
      let w : (L.t i f.0 ≡ true) × (i ≢ d) = symbol-part i f.0 (both-second (X f.0) (emptied.t i f.0) f.2) in
      member-without (touches_set L X) d i (some_below-holds L.columns (both X (L.t i)) f.0 f.1
      (both_true (X f.0) (L.t i f.0) (both-first (X f.0) (emptied.t i f.0) f.2) w.0)) w.1

  touches-kept : (X : ℕ → Bool) (i : ℕ) → touches_set L X i ≡ true → i ≢ d → touches_set emptied X i ≡ true
  touches-kept X i h ne =
      let f : (j : ℕ) × (j < L.columns) × (both X (L.t i) j ≡ true) = some_below-found L.columns (both X (L.t i)) h in
      some_below-holds L.columns (both X (emptied.t i)) f.0 f.1
      (both_true (X f.0) (emptied.t i f.0) (both-first (X f.0) (L.t i f.0) f.2) (symbol-left i f.0 (both-second (X f.0) (L.t i f.0) f.2) ne))

  gamma-less : (X : ℕ → Bool) → gamma emptied X ≤ size_on (without (touches_set L X) d) L.t_rows
  gamma-less X = size_on-within (without (touches_set L X) d) (touches_set emptied X) L.t_rows (λ i _ h. touches-part X i h)

  gamma-more : (X : ℕ → Bool) → size_on (without (touches_set L X) d) L.t_rows ≤ gamma emptied X
  gamma-more X = size_on-within (touches_set emptied X) (without (touches_set L X) d) L.t_rows
      (λ i _ h. let w : (touches_set L X i ≡ true) × (i ≢ d) = without-member (touches_set L X) d i h in touches-kept X i w.0 w.1)

  gamma-untouched : (X : ℕ → Bool) → touches_set L X d ≡ false → gamma L X ≤ gamma emptied X
  gamma-untouched X e = size_on-within (touches_set emptied X) (touches_set L X) L.t_rows
      (λ i _ h. touches-kept X i h (λ q. differ e (subst (λ k. touches_set L X k ≡ true) q h)))

  -- a minimiser touches the row
  pub symbols_empty-falls : (r s : ℕ) → IsLayeredRank p L r → IsLayeredRank p emptied s →
      (X : ℕ → Bool) → IsMinimiser p L X → touches_set L X d ≡ true → s < r
  symbols_empty-falls r s R T X least h = go (rank_exists p prime L.q L.q_rows L.columns X)
    where
      go : (u : ℕ) × IsRho p L X u → s < r
      go (u, K) = omega (
        arith,
        minimiser-reached p prime L X u r K R least,
        rank-at_most p prime emptied X u s K T,
        gamma-less X,
        sum_on-without (touches_set L X) L.t_rows d (λ _. 1) dl h,
      )

  -- no minimiser touches it
  pub symbols_empty-stays : (r s : ℕ) → IsLayeredRank p L r → IsLayeredRank p emptied s →
      ((X : ℕ → Bool) → IsMinimiser p L X → touches_set L X d ≡ false) → s ≡ r
  symbols_empty-stays r s R T none = elim (le_cases s r (layered_part-rank p prime L everything (without everything d) everything r s R T)) [
    | inl q ↦ q
    | inr less ↦ absurd (bad less (least_bound p prime emptied s T))
  ]
    where
      bad : s < r → LeastBound p emptied s → ⊥
      bad less B = at (touches_set L B.X d) refl
        where
          at : (b : Bool) → touches_set L B.X d ≡ b → ⊥
          at false e = omega (arith, less, B.equal, gamma-untouched B.X e, rank-at_most p prime L B.X B.rho r B.rank R)
          at true e = differ (none B.X (reached-minimiser p prime L B.X B.rho r B.rank R (omega (
            arith,
            less,
            B.equal,
            gamma-more B.X,
            sum_on-without (touches_set L B.X) L.t_rows d (λ _. 1) dl e,
            rank-at_most p prime L B.X B.rho r B.rank R,
          )))) e
