-- A layered matrix with one column emptied: its rank falls exactly where some minimiser does not hold the column.
use Rattle.std.proofs.Common.{◌≡◌, ℕ, ◌+◌, ◌<◌, ◌≤◌, ◌≢◌, Bool, true, false, ◌&&◌, ◌||◌, eqb, inl, inr, refl, sym, subst, ◌∙◌, arith}
use Rattle.residue_theory.proofs.CountLaws.{size-without, sum-with_one}
use Rattle.residue_theory.proofs.SetLaws.{both-second, both_true, eqb_true, le_cases, not_true}
use Rattle.residue_theory.proofs.SumLaws.{member-without, nat_cases, size_on-within, without-member}
use Rattle.residue_theory.specs.Residues.{IsPrime}
use Rattle.residue_theory.specs.Sets.{both, everything, with_one, without}
use Rattle.residue_theory.specs.Sums.{size_on}
use Rattle.linear_algebra_laws.proofs.PartLaws.{part_columns-rank}
use Rattle.linear_algebra_laws.proofs.RankLaws.{rank-same_set}
use Rattle.linear_algebra_laws.proofs.Ranks.{rank-unique, rank_exists}
use Rattle.mixed_matrices.specs.LayeredMatrices.{LayeredMatrix, layered_part}
use Rattle.mixed_matrices.specs.SetFunctions.{IsMinimiser, IsRho}
use Rattle.mixed_matrices.specs.StructuralRanks.{IsLayeredRank}
use Rattle.mixed_pair_laws.proofs.MinMax.{minimiser-reached, rank-at_most, reached-minimiser}
use Rattle.mixed_report_laws.proofs.EmptiedParts.{LeastBound, gamma-columns, gamma-same_set, layered_part-rank, least_bound}

module _ (p : ℕ) (prime : IsPrime p) (L : LayeredMatrix) (v : ℕ) (vl : v < L.columns) where
  abbrev emptied : LayeredMatrix
  emptied = layered_part everything everything (without everything v) L

  abbrev others : (ℕ → Bool) → ℕ → Bool
  others X = both X (without everything v)

  emptied-rho : (X : ℕ → Bool) (u : ℕ) → IsRho p L (others X) u → IsRho p emptied X u
  emptied-rho X u K = part_columns-rank p prime L.q_rows L.columns L.q (without everything v) X u K

  others-size : (X : ℕ → Bool) → size_on X L.columns ≤ size_on (others X) L.columns + 1
  others-size X = omega (
    arith,
    size-without X L.columns v vl,
    size_on-within (others X) (without X v) L.columns (λ j _ h. let w : (X j ≡ true) × (j ≢ v) = without-member X v j h in both_true (X j)
        (without everything v j) w.0 (member-without everything v j refl w.1)),
  )

  others-not : (X : ℕ → Bool) → others X v ≡ true → ⊥
  others-not X h = (without-member everything v v (both-second (X v) (without everything v v) h)).1 refl

  -- a minimiser without the column
  pub column_empty-falls : (r s : ℕ) → IsLayeredRank p L r → IsLayeredRank p emptied s → (X : ℕ → Bool) → IsMinimiser p L X → X v ≡ false → s < r
  column_empty-falls r s R T X least none = go (rank_exists p prime L.q L.q_rows L.columns X)
    where
      same : (j : ℕ) → X j ≡ others (with_one X v) j
      same j = elim (nat_cases j v) [
        | inl q ↦ subst (λ k. X k ≡ others (with_one X v) k) (sym q) (none ∙ sym (not_true (others (with_one X v) v) (others-not (with_one X v))))
        | inr ne ↦ sym (kept (with_one X v j) (without everything v j) (member-without everything v j refl ne)
            ∙ other (X j) (eqb j v) (eqb_no j v ne))
      ]
        where
          kept : (x w : Bool) → w ≡ true → x && w ≡ x
          kept x w h = grind arith

          other : (x e : Bool) → e ≡ false → x || e ≡ x
          other x e h = grind arith

          eqb_no : (a b : ℕ) → a ≢ b → eqb a b ≡ false
          eqb_no a b ne = not_true (eqb a b) (λ h. ne (eqb_true a b h))

      go : (u : ℕ) × IsRho p L X u → s < r
      go (u, K) = omega (
        arith,
        minimiser-reached p prime L X u r K R least,
        rank-at_most p prime emptied (with_one X v) u s (emptied-rho (with_one X v) u
            (rank-same_set p L.q L.q_rows L.columns X (others (with_one X v)) u (λ j _. same j) K)) T,
        gamma-columns L (without everything v) (with_one X v),
        gamma-same_set L X (others (with_one X v)) same,
        sum-with_one X L.columns v (λ _. 1) vl none,
      )

  -- each minimiser holds it
  pub column_empty-stays : (r s : ℕ) → IsLayeredRank p L r → IsLayeredRank p emptied s → ((X : ℕ → Bool) → IsMinimiser p L X → X v ≡ true) → s ≡ r
  column_empty-stays r s R T each = elim (le_cases s r (layered_part-rank p prime L everything everything (without everything v) r s R T)) [
    | inl q ↦ q
    | inr less ↦ absurd (bad less (least_bound p prime emptied s T))
  ]
    where
      bad : s < r → LeastBound p emptied s → ⊥
      bad less B = at (rank_exists p prime L.q L.q_rows L.columns (others B.X))
        where
          at : (u : ℕ) × IsRho p L (others B.X) u → ⊥
          at (u, K) = others-not B.X (each (others B.X) (reached-minimiser p prime L (others B.X) u r K R (omega (
            arith,
            less,
            rank-at_most p prime L (others B.X) u r K R,
            B.equal,
            rank-unique p emptied.q L.q_rows L.columns B.X B.rho u B.rank (emptied-rho B.X u K),
            gamma-columns L (without everything v) B.X,
            others-size B.X,
          ))))
