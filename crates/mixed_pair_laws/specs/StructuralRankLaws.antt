-- Laws of the structural rank.
use Rattle.std.specs.Prelude.{◌≡◌, ◌+◌, ◌<◌, ◌≤◌, ◌↔◌, ℕ, Bool}
use Rattle.residue_theory.specs.Residues.{IsPrime}
use Rattle.residue_theory.specs.Sets.{everything, without}
use Rattle.residue_theory.specs.Sums.{size_on}
use Rattle.linear_algebra.specs.Columns.{IsRank}
use Rattle.mixed_matrices.specs.Arcs.{HasNoWalk}
use Rattle.mixed_matrices.specs.LayeredMatrices.{AreSameLayers, LayeredMatrix, layered_value}
use Rattle.mixed_matrices.specs.Models.{AreSameModels, MixedMatrix}
use Rattle.mixed_matrices.specs.Pairs.{IsBest, IsPair, matching_values, pair_size}
use Rattle.mixed_matrices.specs.Removals.{mixed_part, without_equation, without_unknown}
use Rattle.mixed_matrices.specs.SetFunctions.{IsRho, gamma}
use Rattle.mixed_matrices.specs.StructuralRanks.{IsLayeredRank, IsStructuralRank}
use Rattle.mixed_matrices.specs.Tableaus.{HasTableau, Tableau}

-- every mixed matrix has a structural rank, and only one, at most the number of its rows and of its columns
abbrev pub EachModelHasOneRank : Type 0
EachModelHasOneRank =
    (p : ℕ) → IsPrime p → (M : MixedMatrix) →
    (r : ℕ) × IsStructuralRank p M r × ((s : ℕ) → IsStructuralRank p M s → s ≡ r) × (r ≤ M.rows) × (r ≤ M.columns)

abbrev pub EachLayeredMatrixHasOneRank : Type 0
EachLayeredMatrixHasOneRank =
    (p : ℕ) → IsPrime p → (L : LayeredMatrix) →
    (r : ℕ) × IsLayeredRank p L r × ((s : ℕ) → IsLayeredRank p L s → s ≡ r)
    × (r ≤ L.q_rows + L.t_rows) × (r ≤ L.columns)

-- where a pair reaches the bound, its size is R(L)
abbrev pub PairsThatReachTheBoundShowTheRank : Type 0
PairsThatReachTheBoundShowTheRank =
    (p : ℕ) → IsPrime p → (L : LayeredMatrix) (I J : ℕ → Bool) (mate : ℕ → ℕ) → IsPair p L I J mate →
    (X : ℕ → Bool) (r : ℕ) → IsRho p L X r →
    pair_size L I J + size_on X L.columns ≡ r + gamma L X + L.columns → IsLayeredRank p L (pair_size L I J)

-- where no end is reached from a free column of a tableau, the size of its pair is R(L)
abbrev pub PairsWithoutWalkShowTheRank : Type 0
PairsWithoutWalkShowTheRank =
    (p : ℕ) → IsPrime p → (L : LayeredMatrix) (F : Tableau) → HasTableau p L F → HasNoWalk p L F →
    IsLayeredRank p L (pair_size L F.base F.matched)

-- a best pair has the size R(L)
abbrev pub BestPairsShowTheRank : Type 0
BestPairsShowTheRank =
    (p : ℕ) → IsPrime p → (L : LayeredMatrix) (I J : ℕ → Bool) (mate : ℕ → ℕ) → IsPair p L I J mate → IsBest p L I J →
    IsLayeredRank p L (pair_size L I J)

-- 1 at the places of a matching and 0 elsewhere give a rank of at least the pair's size
abbrev pub MatchingValuesReachThePair : Type 0
MatchingValuesReachThePair =
    (p : ℕ) → IsPrime p → (L : LayeredMatrix) (I J : ℕ → Bool) (mate : ℕ → ℕ) → IsPair p L I J mate → (s : ℕ) →
    IsRank p (layered_value L (matching_values J mate)) (L.q_rows + L.t_rows) L.columns everything s →
    pair_size L I J ≤ s

-- the entries decide the structural rank: of models, and of layered matrices
abbrev pub SameModelsHaveTheSameRank : Type 0
SameModelsHaveTheSameRank = (p : ℕ) (M N : MixedMatrix) → AreSameModels p M N → (r : ℕ) → IsStructuralRank p M r →
    IsStructuralRank p N r

abbrev pub SameLayersHaveTheSameRank : Type 0
SameLayersHaveTheSameRank = (p : ℕ) (L K : LayeredMatrix) → AreSameLayers p L K → (r : ℕ) → IsLayeredRank p L r →
    IsLayeredRank p K r

-- a model without its equation i has the rank of the model in which that equation is emptied
abbrev pub EmptiedEquationsAreLeftOut : Type 0
EmptiedEquationsAreLeftOut =
    (p : ℕ) → IsPrime p → (M : MixedMatrix) (i : ℕ) → i < M.rows → (r : ℕ) →
    IsStructuralRank p (without_equation i M) r ↔ IsStructuralRank p (mixed_part (without everything i) everything M) r

-- and likewise for an unknown
abbrev pub EmptiedUnknownsAreLeftOut : Type 0
EmptiedUnknownsAreLeftOut =
    (p : ℕ) → IsPrime p → (M : MixedMatrix) (j : ℕ) → j < M.columns → (r : ℕ) →
    IsStructuralRank p (without_unknown j M) r ↔ IsStructuralRank p (mixed_part everything (without everything j) M) r
