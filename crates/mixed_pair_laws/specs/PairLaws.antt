-- Laws of pairs: the bound by the set function, and when it is reached.
use Rattle.std.specs.Prelude.{◌≡◌, ◌+◌, ◌≤◌, ◌↔◌, ℕ, Bool}
use Rattle.residue_theory.specs.Residues.{IsPrime}
use Rattle.residue_theory.specs.Sums.{size_on}
use Rattle.mixed_matrices.specs.Arcs.{HasNoWalk, IsClosedIn}
use Rattle.mixed_matrices.specs.LayeredMatrices.{LayeredMatrix}
use Rattle.mixed_matrices.specs.Pairs.{IsBest, IsPair, pair_size}
use Rattle.mixed_matrices.specs.SetFunctions.{IsRho, gamma}
use Rattle.mixed_matrices.specs.Tableaus.{HasTableau, IsTableau, Tableau}

-- no pair is larger than p(X) + N, for any column set X
abbrev pub PairsAreBounded : Type 0
PairsAreBounded =
    (p : ℕ) (L : LayeredMatrix) (I J : ℕ → Bool) (mate : ℕ → ℕ) → IsPair p L I J mate →
    (X : ℕ → Bool) (r : ℕ) → IsRho p L X r →
    pair_size L I J + size_on X L.columns ≤ r + gamma L X + L.columns

-- the base and the matched columns of a tableau are a pair
abbrev pub TableausHoldPairs : Type 0
TableausHoldPairs = (p : ℕ) → IsPrime p → (L : LayeredMatrix) (F : Tableau) → HasTableau p L F →
    IsPair p L F.base F.matched F.mate

-- a tableau with S is one without
abbrev pub TransformsKeepTheKernel : Type 0
TransformsKeepTheKernel = (p : ℕ) → IsPrime p → (L : LayeredMatrix) (S U : ℕ → ℕ → ℕ) (F : Tableau) →
    IsTableau p L S U F → HasTableau p L F

-- the pair of a tableau reaches p(X) + N exactly where X is closed
abbrev pub ClosedSetsReachTheBound : Type 0
ClosedSetsReachTheBound =
    (p : ℕ) → IsPrime p → (L : LayeredMatrix) (F : Tableau) → HasTableau p L F →
    (X : ℕ → Bool) (r : ℕ) → IsRho p L X r →
    (pair_size L F.base F.matched + size_on X L.columns ≡ r + gamma L X + L.columns) ↔ IsClosedIn p L F X

-- the pair is best exactly where no end is reached from a free column
abbrev pub PairsWithoutWalkAreBest : Type 0
PairsWithoutWalkAreBest =
    (p : ℕ) → IsPrime p → (L : LayeredMatrix) (F : Tableau) → HasTableau p L F →
    IsBest p L F.base F.matched ↔ HasNoWalk p L F

-- each layered matrix has a pair and a column set X with |pair| = p(X) + N: the greatest size of a pair is the least p
-- + N
abbrev pub SomePairReachesTheBound : Type 0
SomePairReachesTheBound =
    (p : ℕ) → IsPrime p → (L : LayeredMatrix) →
    (I : ℕ → Bool) × (J : ℕ → Bool) × (mate : ℕ → ℕ) × (X : ℕ → Bool) × (r : ℕ) ×
    IsPair p L I J mate × IsRho p L X r × (pair_size L I J + size_on X L.columns ≡ r + gamma L X + L.columns)

-- each pair stands in a tableau
abbrev pub EachPairHasATableau : Type 0
EachPairHasATableau =
    (p : ℕ) → IsPrime p → (L : LayeredMatrix) (I J : ℕ → Bool) (mate : ℕ → ℕ) → IsPair p L I J mate →
    (S : ℕ → ℕ → ℕ) × (U : ℕ → ℕ → ℕ) × (P : ℕ → ℕ → ℕ) × (row : ℕ → ℕ) ×
    IsTableau p L S U (record { P = P; base = I; row = row; matched = J; mate = mate })
