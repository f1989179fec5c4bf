-- Laws of a part of a layered matrix, after row operations: the Q rows R, the T rows D and the columns X,
-- where the row of each base column of X is in R, and the mate of each matched column of X in D.
use Rattle.std.specs.Prelude.{◌≡◌, ◌<◌, ◌⊎◌, ℕ, Bool, true}
use Rattle.residue_theory.specs.Residues.{IsPrime}
use Rattle.residue_theory.specs.Sets.{both}
use Rattle.mixed_matrices.specs.Forms.{transformed}
use Rattle.mixed_matrices.specs.LayeredMatrices.{LayeredMatrix, layered_part}
use Rattle.mixed_matrices.specs.Pairs.{pair_size}
use Rattle.mixed_matrices.specs.StructuralRanks.{IsLayeredRank}
use Rattle.mixed_matrices.specs.Tableaus.{HasTableau, IsTableau, Tableau, tableau_part}

abbrev pub HoldsItsRows : LayeredMatrix → Tableau → (ℕ → Bool) → (ℕ → Bool) → (ℕ → Bool) → Type 0
HoldsItsRows L F R D X =
    ((b : ℕ) → b < L.columns → F.base b ≡ true → X b ≡ true → R (F.row b) ≡ true)
    × ((j : ℕ) → j < L.columns → F.matched j ≡ true → X j ≡ true → D (F.mate j) ≡ true)

-- the part of the tableau is a tableau of the part, so that all laws of tableaus hold of it
abbrev pub PartsHaveTableaus : Type 0
PartsHaveTableaus =
    (p : ℕ) → IsPrime p → (L : LayeredMatrix) (S U : ℕ → ℕ → ℕ) (F : Tableau) → IsTableau p L S U F →
    (R D X : ℕ → Bool) →
    HoldsItsRows L F R D X →
    HasTableau p (layered_part R D X (transformed S L)) (tableau_part R X F)

-- each row is that of a base or matched column of the part: the rank is their number
abbrev pub FullRowsShowTheRank : Type 0
FullRowsShowTheRank =
    (p : ℕ) → IsPrime p → (L : LayeredMatrix) (S U : ℕ → ℕ → ℕ) (F : Tableau) → IsTableau p L S U F →
    (R D X : ℕ → Bool) →
    HoldsItsRows L F R D X →
    ((i : ℕ) → i < L.q_rows → R i ≡ true → (b : ℕ) × (b < L.columns) × (both F.base X b ≡ true) × (F.row b ≡ i)) →
    ((i : ℕ) → i < L.t_rows → D i ≡ true → (j : ℕ) × (j < L.columns) × (both F.matched X j ≡ true) × (F.mate j ≡ i)) →
    IsLayeredRank p (layered_part R D X (transformed S L)) (pair_size L (both F.base X) (both F.matched X))

-- each column is in the base or matched: the rank is their number
abbrev pub FullColumnsShowTheRank : Type 0
FullColumnsShowTheRank =
    (p : ℕ) → IsPrime p → (L : LayeredMatrix) (S U : ℕ → ℕ → ℕ) (F : Tableau) → IsTableau p L S U F →
    (R D X : ℕ → Bool) →
    HoldsItsRows L F R D X →
    ((j : ℕ) → j < L.columns → X j ≡ true → (F.base j ≡ true) ⊎ (F.matched j ≡ true)) →
    IsLayeredRank p (layered_part R D X (transformed S L)) (pair_size L (both F.base X) (both F.matched X))
