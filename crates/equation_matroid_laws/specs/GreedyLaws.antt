-- Laws of the greedy choice of equations: it reaches R at each step, and what it leaves out is a cheapest repair.
use Rattle.std.specs.Prelude.{ℕ, ◌<◌, ◌≡◌, ◌↔◌, Bool, false}
use Rattle.residue_theory.specs.Residues.{IsPrime}
use Rattle.residue_theory.specs.Sets.{IsWithin, both, everything}
use Rattle.residue_theory.specs.Sums.{size_on}
use Rattle.mixed_matrices.specs.Models.{MixedMatrix}
use Rattle.equation_matroid_laws.specs.EquationRanks.{AreIndependent, IsRankOf}
use Rattle.equation_matroid_laws.specs.GreedyChoices.{IsCheapestRepair, IsGreedyChoice, IsIndependentChoice, IsLine}
use Rattle.equation_matroid_laws.specs.GreedyChoices.{IsPrefix, by_cost, costing, outside}

-- along any order there is a greedy choice, and only one
abbrev pub ThereIsOneGreedyChoice : Type 0
ThereIsOneGreedyChoice =
    (p : ℕ) → IsPrime p → (M : MixedMatrix) (before : ℕ → ℕ → Bool) (X : ℕ → Bool) →
    (K : ℕ → Bool) × IsGreedyChoice p M before X K
    × ((L : ℕ → Bool) → IsGreedyChoice p M before X L → (e : ℕ) → e < M.rows → L e ≡ K e)

-- at each step what is kept is independent, and as many as R tells
abbrev pub GreedyChoicesReachTheRank : Type 0
GreedyChoicesReachTheRank =
    (p : ℕ) → IsPrime p → 2 < p → (M : MixedMatrix) (before : ℕ → ℕ → Bool) → IsLine before → (X K : ℕ → Bool) →
    IsGreedyChoice p M before X K → (P : ℕ → Bool) → IsPrefix M.rows before X P →
    AreIndependent p M (both K P) × IsRankOf p M P (size_on (both K P) M.rows)

-- and along a line a greedy choice is told by independence alone
abbrev pub IndependenceTellsTheGreedyChoice : Type 0
IndependenceTellsTheGreedyChoice =
    (p : ℕ) → IsPrime p → 2 < p → (M : MixedMatrix) (before : ℕ → ℕ → Bool) → IsLine before → (X K : ℕ → Bool) →
    IsWithin M.rows K X → IsGreedyChoice p M before X K ↔ IsIndependentChoice p M before X K

-- so by falling cost R of the equations that cost at least c are kept of them
abbrev pub KeptEquationsReachEachLevel : Type 0
KeptEquationsReachEachLevel =
    (p : ℕ) → IsPrime p → 2 < p → (M : MixedMatrix) (cost : ℕ → ℕ) (K : ℕ → Bool) →
    IsGreedyChoice p M (by_cost cost) everything K →
    AreIndependent p M K × IsRankOf p M everything (size_on K M.rows)
    × ((c : ℕ) → IsRankOf p M (costing cost c) (size_on (both K (costing cost c)) M.rows))

-- whoever chose K: where it is independent, and reaches R at the cost of each equation outside, those outside are a
-- cheapest repair
abbrev pub LevelsShowACheapestRepair : Type 0
LevelsShowACheapestRepair =
    (p : ℕ) → IsPrime p → 2 < p → (M : MixedMatrix) (cost : ℕ → ℕ) (K : ℕ → Bool) → AreIndependent p M K →
    ((e : ℕ) → e < M.rows → K e ≡ false →
    IsRankOf p M (costing cost (cost e)) (size_on (both K (costing cost (cost e))) M.rows)) →
    IsCheapestRepair p M cost (outside K)

-- so what the greedy choice by falling cost leaves out is a cheapest repair
abbrev pub GreedyChoicesLeaveACheapestRepair : Type 0
GreedyChoicesLeaveACheapestRepair =
    (p : ℕ) → IsPrime p → 2 < p → (M : MixedMatrix) (cost : ℕ → ℕ) (K : ℕ → Bool) →
    IsGreedyChoice p M (by_cost cost) everything K → IsCheapestRepair p M cost (outside K)
