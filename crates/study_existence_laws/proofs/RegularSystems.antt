-- A regular system has a solution for each right side.
use Rattle.std.proofs.Common.{◌≡◌, ℕ, ◌+◌, ◌≤◌, refl, arith}
use Rattle.residue_theory.specs.Residues.{IsPrime}
use Rattle.residue_theory.specs.Sets.{everything}
use Rattle.residue_theory.proofs.CountLaws.{size-everything}
use Rattle.residue_theory.proofs.SetLaws.{differ}
use Rattle.linear_algebra.specs.Columns.{Combines, IsRank}
use Rattle.linear_algebra.specs.Parts.{with_column}
use Rattle.linear_algebra_laws.proofs.ColumnBeside.{beside-at_most, stays-beside}
use Rattle.linear_algebra_laws.proofs.RankLaws.{rank-rows}
use Rattle.linear_algebra_laws.proofs.Ranks.{rank_exists}

-- where there are as many rows as columns, as many as the rank, each right side is a combination of the columns
pub regular-combines : (p : ℕ) → IsPrime p → (a : ℕ → ℕ → ℕ) (m n : ℕ) → m ≡ n → IsRank p a m n everything n → (b : ℕ → ℕ) →
    Combines p a m n everything b
regular-combines p prime a m n even R b = go (rank_exists p prime (with_column n a b) m (n + 1) everything)
  where
    go : (s : ℕ) × IsRank p (with_column n a b) m (n + 1) everything s → Combines p a m n everything b
    go (s, T) = stays-beside p m n a b prime n s R T (omega (arith, even, (beside-at_most p m n a b prime n s R T).0, few))
      where
        few : s ≤ m
        few = omega (
          arith,
          size-everything m,
          rank-rows p prime (with_column n a b) m (n + 1) everything everything s (λ i j _ _ out _. absurd (differ out refl)) T,
        )
