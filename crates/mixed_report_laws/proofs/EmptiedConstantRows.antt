-- A layered matrix with one Q row emptied: its rank falls exactly where rho of some minimiser falls without the row.
use Rattle.std.proofs.Common.{◌≡◌, ℕ, ◌+◌, ◌-◌, ◌<◌, ◌≤◌, Bool, inl, inr, arith}
use Rattle.residue_theory.proofs.SetLaws.{le_cases}
use Rattle.residue_theory.specs.Residues.{IsPrime}
use Rattle.residue_theory.specs.Sets.{everything, without}
use Rattle.residue_theory.specs.Sums.{size_on}
use Rattle.linear_algebra.specs.Columns.{IsRank}
use Rattle.linear_algebra.specs.Parts.{without_row}
use Rattle.linear_algebra_laws.proofs.Ranks.{rank-unique, rank_exists}
use Rattle.linear_algebra_laws.proofs.RowRemoval.{IsRowRemoved, part-removed, removed-at_most, without_row-removed}
use Rattle.mixed_matrices.specs.LayeredMatrices.{LayeredMatrix, layered_part}
use Rattle.mixed_matrices.specs.SetFunctions.{IsMinimiser, IsRho, gamma}
use Rattle.mixed_matrices.specs.StructuralRanks.{IsLayeredRank}
use Rattle.mixed_pair_laws.proofs.MinMax.{minimiser-reached, rank-at_most, reached-minimiser}
use Rattle.mixed_report_laws.proofs.EmptiedParts.{LeastBound, layered_part-rank, least_bound}

-- a matrix without a row has the ranks of one in which the row is emptied
removed-same : (p m k l n : ℕ) (a b c : ℕ → ℕ → ℕ) (e : ℕ) → IsRowRemoved p m k n a b e → IsRowRemoved p m l n a c e → (X : ℕ → Bool)
    (v : ℕ) → IsRank p b k n X v → IsRank p c l n X v
removed-same p m k l n a b c e B C X v K = record {
  reached = (K.reached.0, K.reached.1, (λ f z. K.reached.2 f (B.back K.reached.0 f (C.rows K.reached.0 f z))), K.reached.3);
  greatest = λ Y within ind. K.greatest Y within (λ f z. ind f (C.back Y f (B.rows Y f z)));
}

module _ (p : ℕ) (prime : IsPrime p) (L : LayeredMatrix) (e : ℕ) (el : e < L.q_rows) where
  abbrev emptied : LayeredMatrix
  emptied = layered_part (without everything e) everything everything L

  abbrev IsRhoWithout : (ℕ → Bool) → ℕ → Type 0
  IsRhoWithout X v = IsRank p (without_row e L.q) (L.q_rows - 1) L.columns X v

  rho-emptied : (X : ℕ → Bool) (v : ℕ) → IsRhoWithout X v → IsRho p emptied X v
  rho-emptied = removed-same p L.q_rows (L.q_rows - 1) L.q_rows L.columns L.q (without_row e L.q) emptied.q e
      (without_row-removed p L.q_rows L.columns L.q e el) (part-removed p L.q_rows L.columns L.q e el)

  rho-at_most : (X : ℕ → Bool) (u v : ℕ) → IsRho p L X u → IsRhoWithout X v → (v ≤ u) × (u ≤ v + 1)
  rho-at_most = removed-at_most p prime L.q_rows (L.q_rows - 1) L.columns L.q (without_row e L.q) e
      (without_row-removed p L.q_rows L.columns L.q e el)

  abbrev Same : (ℕ → Bool) → Type 0
  Same X = (u v : ℕ) → IsRho p L X u → IsRhoWithout X v → v ≡ u

  -- the rank stays only where rho of each minimiser does
  pub constants_empty-same : (r : ℕ) → IsLayeredRank p L r → IsLayeredRank p emptied r → (X : ℕ → Bool) → IsMinimiser p L X → Same X
  constants_empty-same r R T X least u v K W = elim (le_cases v u (rho-at_most X u v K W).0) [
    | inl q ↦ q
    | inr less ↦ absurd (omega (arith, less, minimiser-reached p prime L X u r K R least, rank-at_most p prime emptied X v r (rho-emptied X v W) T))
  ]

  -- and stays where it does
  pub constants_empty-stays : (r s : ℕ) → IsLayeredRank p L r → IsLayeredRank p emptied s → ((X : ℕ → Bool) → IsMinimiser p L X → Same X) → s ≡ r
  constants_empty-stays r s R T same = elim (le_cases s r (layered_part-rank p prime L (without everything e) everything everything r s R T)) [
    | inl q ↦ q
    | inr less ↦ absurd (bad less (least_bound p prime emptied s T))
  ]
    where
      bad : s < r → LeastBound p emptied s → ⊥
      bad less B = go (rank_exists p prime L.q L.q_rows L.columns B.X) (rank_exists p prime (without_row e L.q) (L.q_rows - 1) L.columns B.X)
        where
          go : (u : ℕ) × IsRho p L B.X u → (v : ℕ) × IsRhoWithout B.X v → ⊥
          go (u, K) (v, W) = omega (arith, counted, same B.X (reached-minimiser p prime L B.X u r K R counted.1) u v K W)
            where
              rho : B.rho ≡ v
              rho = rank-unique p emptied.q L.q_rows L.columns B.X B.rho v B.rank (rho-emptied B.X v W)

              counted : (u ≡ v + 1) × (r + size_on B.X L.columns ≡ u + gamma L B.X + L.columns)
              counted = let most : r + size_on B.X L.columns ≤ u + gamma L B.X + L.columns = rank-at_most p prime L B.X u r K R in
                  let more : u ≤ v + 1 = (rho-at_most B.X u v K W).1 in
                  (omega (arith, less, B.equal, rho, most, more), omega (arith, less, B.equal, rho, most, more))
