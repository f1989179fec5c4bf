use Rattle.std.proofs.Common.{◌≡◌, ℕ}
use Rattle.equation_matroid_laws.proofs.RowRanks.{rank_exists-of, rank_unique-of}
use Rattle.equation_matroid_laws.specs.EquationRanks.{IsRankOf}
use Rattle.equation_matroid_laws.proofs.matroid_laws.each_set_of_equations_has_one_rank.Goals as goal

pub returns : goal.returns
returns c p prime M X = go (rank_exists-of p prime M X)
  where
    go : (r : ℕ) × IsRankOf p M X r → (r : ℕ) × IsRankOf p M X r × ((s : ℕ) → IsRankOf p M X s → s ≡ r)
    go (r, R) = (r, R, λ s S. rank_unique-of p prime M X s r S R)
