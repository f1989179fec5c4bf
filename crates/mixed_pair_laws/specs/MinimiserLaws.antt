-- Laws of minimisers: of every layered matrix, and read from a tableau in which no end is reached from a free column.
use Rattle.std.specs.Prelude.{◌≡◌, ◌+◌, ◌≤◌, ◌↔◌, ℕ, Bool}
use Rattle.residue_theory.specs.Residues.{IsPrime}
use Rattle.residue_theory.specs.Sets.{IsWithin}
use Rattle.residue_theory.specs.Sums.{size_on}
use Rattle.mixed_matrices.specs.Arcs.{HasNoWalk, IsClosedIn, IsReachedFromFree}
use Rattle.mixed_matrices.specs.LayeredMatrices.{LayeredMatrix}
use Rattle.mixed_matrices.specs.Pairs.{pair_size}
use Rattle.mixed_matrices.specs.SetFunctions.{IsMinimiser, IsRho, gamma}
use Rattle.mixed_matrices.specs.StructuralRanks.{IsLayeredRank}
use Rattle.mixed_matrices.specs.Tableaus.{HasTableau, Tableau}

-- R(L) is the minimum of p, and N
abbrev pub RankIsTheLeastBound : Type 0
RankIsTheLeastBound =
    (p : ℕ) → IsPrime p → (L : LayeredMatrix) (X : ℕ → Bool) (r R : ℕ) → IsRho p L X r → IsLayeredRank p L R →
    (R + size_on X L.columns ≤ r + gamma L X + L.columns)
    × (IsMinimiser p L X ↔ (R + size_on X L.columns ≡ r + gamma L X + L.columns))

-- the minimum of p is |pair| - N
abbrev pub MinimumIsSizeLessColumns : Type 0
MinimumIsSizeLessColumns =
    (p : ℕ) → IsPrime p → (L : LayeredMatrix) (F : Tableau) → HasTableau p L F → HasNoWalk p L F →
    (X : ℕ → Bool) (r : ℕ) → IsRho p L X r →
    IsMinimiser p L X ↔ (r + gamma L X + L.columns ≡ pair_size L F.base F.matched + size_on X L.columns)

-- a column set is a minimiser exactly where it is closed
abbrev pub MinimisersAreTheClosedSets : Type 0
MinimisersAreTheClosedSets =
    (p : ℕ) → IsPrime p → (L : LayeredMatrix) (F : Tableau) → HasTableau p L F → HasNoWalk p L F → (X : ℕ → Bool) →
    IsMinimiser p L X ↔ IsClosedIn p L F X

-- what is reached from the free columns is the least minimiser
abbrev pub ReachedColumnsAreTheLeastMinimiser : Type 0
ReachedColumnsAreTheLeastMinimiser =
    (p : ℕ) → IsPrime p → (L : LayeredMatrix) (F : Tableau) → HasTableau p L F → HasNoWalk p L F → (X : ℕ → Bool) →
    IsReachedFromFree p L F X →
    IsMinimiser p L X × ((Y : ℕ → Bool) → IsMinimiser p L Y → IsWithin L.columns X Y)
