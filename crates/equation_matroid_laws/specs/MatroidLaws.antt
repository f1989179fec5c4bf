-- Laws of the rank of a set of equations: the equations of a mixed matrix form a matroid.
use Rattle.std.specs.Prelude.{ℕ, ◌+◌, ◌<◌, ◌≤◌, ◌≡◌, ◌↔◌, Bool, true, false}
use Rattle.residue_theory.specs.Residues.{IsPrime}
use Rattle.residue_theory.specs.Sets.{IsWithin, with_one, without, everything}
use Rattle.residue_theory.specs.Sums.{size_on}
use Rattle.mixed_matrices.specs.LayeredMatrices.{LayeredMatrix}
use Rattle.mixed_matrices.specs.Layerings.{IsLayering, Origins}
use Rattle.mixed_matrices.specs.Models.{MixedMatrix}
use Rattle.mixed_matrices.specs.Removals.{without_equation}
use Rattle.mixed_matrices.specs.StructuralRanks.{IsLayeredRank, IsStructuralRank}
use Rattle.equation_matroid_laws.specs.EquationRanks.{AreIndependent, IsLargestSize, IsOneToThree, IsRankAt, IsRankOf}
use Rattle.equation_matroid_laws.specs.EquationRanks.{emptied_layers}

-- for two sets of equations, one value of 1, 2 and 3 at the symbols gives both the ranks that they have at best
abbrev pub OneValueReachesTwoRanks : Type 0
OneValueReachesTwoRanks =
    (p : ℕ) → IsPrime p → 2 < p → (M : MixedMatrix) (X Y : ℕ → Bool) (r s : ℕ) → IsRankOf p M X r → IsRankOf p M Y s →
    (v : ℕ → ℕ → ℕ) × IsRankAt p M v X r × IsRankAt p M v Y s ×
    ((i j : ℕ) → i < M.rows → j < M.columns → IsOneToThree (v i j))

-- each set of equations has one rank
abbrev pub EachSetOfEquationsHasOneRank : Type 0
EachSetOfEquationsHasOneRank =
    (p : ℕ) → IsPrime p → (M : MixedMatrix) (X : ℕ → Bool) →
    (r : ℕ) × IsRankOf p M X r × ((s : ℕ) → IsRankOf p M X s → s ≡ r)

-- R of all equations is the structural rank of the model
abbrev pub RankOfAllEquations : Type 0
RankOfAllEquations =
    (p : ℕ) (M : MixedMatrix) (r : ℕ) → IsRankOf p M everything r ↔ IsStructuralRank p M r

-- R of all equations but e is the structural rank of the model without equation e
abbrev pub RankWithoutAnEquation : Type 0
RankWithoutAnEquation =
    (p : ℕ) → IsPrime p → (M : MixedMatrix) (e : ℕ) → e < M.rows → (r : ℕ) →
    IsRankOf p M (without everything e) r ↔ IsStructuralRank p (without_equation e M) r

-- independent equations have independent subsets
abbrev pub SubsetsAreIndependent : Type 0
SubsetsAreIndependent =
    (p : ℕ) → IsPrime p → (M : MixedMatrix) (X Y : ℕ → Bool) → IsWithin M.rows X Y → AreIndependent p M Y →
    AreIndependent p M X

-- of two independent sets some equation of the larger one may join the smaller one
abbrev pub IndependentSetsExchange : Type 0
IndependentSetsExchange =
    (p : ℕ) → IsPrime p → 2 < p → (M : MixedMatrix) (X Y : ℕ → Bool) → AreIndependent p M X → AreIndependent p M Y →
    size_on X M.rows < size_on Y M.rows →
    (y : ℕ) × (y < M.rows) × (Y y ≡ true) × (X y ≡ false) × AreIndependent p M (with_one X y)

-- R(X) is the size of a largest independent subset of X
abbrev pub RankIsTheLargestSize : Type 0
RankIsTheLargestSize =
    (p : ℕ) → IsPrime p → (M : MixedMatrix) (X : ℕ → Bool) (r : ℕ) → IsRankOf p M X r ↔ IsLargestSize p M X r

-- one more equation keeps R, or adds one
abbrev pub OneMoreEquationAddsAtMostOne : Type 0
OneMoreEquationAddsAtMostOne =
    (p : ℕ) → IsPrime p → (M : MixedMatrix) (X : ℕ → Bool) (e r s : ℕ) → e < M.rows →
    IsRankOf p M X r → IsRankOf p M (with_one X e) s → (r ≤ s) × (s ≤ r + 1)

-- R of each set of equations is told by one layered matrix of the model, where the other equations are emptied
abbrev pub EmptiedLayersShowTheRank : Type 0
EmptiedLayersShowTheRank =
    (p : ℕ) → IsPrime p → 2 < p → (M : MixedMatrix) (A D : ℕ → Bool) (L : LayeredMatrix) (O : Origins) →
    IsLayering M A D L O → (X : ℕ → Bool) (r : ℕ) →
    IsRankOf p M X r ↔ IsLayeredRank p (emptied_layers M O X L) (r + O.split)
