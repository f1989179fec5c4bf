-- Laws of all forms of a layered matrix, with any S.
use Rattle.std.specs.Prelude.{◌≡◌, ◌+◌, ◌<◌, ◌≤◌, ℕ, leb}
use Rattle.residue_theory.specs.Residues.{IsPrime}
use Rattle.residue_theory.specs.Sums.{sum_below}
use Rattle.mixed_matrices.specs.CanonicalParts.{AreCanonical}
use Rattle.mixed_matrices.specs.CheckerRules.{HasRows}
use Rattle.mixed_matrices.specs.Forms.{IsAsFine, IsForm, Parts, part_columns, part_rows, transformed}
use Rattle.mixed_matrices.specs.LayeredMatrices.{LayeredMatrix}
use Rattle.mixed_matrices.specs.Pairs.{IsBest}
use Rattle.mixed_matrices.specs.SetFunctions.{IsMinimiser}
use Rattle.mixed_matrices.specs.StructuralRanks.{IsLayeredRank}
use Rattle.mixed_matrices.specs.Tableaus.{IsTableau, Tableau}

-- in a form the structural ranks of the diagonal parts, which are their rows and the last one's columns, add up to at
-- most R(L)
abbrev pub DiagonalRanksAddUp : Type 0
DiagonalRanksAddUp =
    (p : ℕ) → IsPrime p → (L : LayeredMatrix) (S : ℕ → ℕ → ℕ) (G : Parts) → IsForm p L S G → (r : ℕ) →
    IsLayeredRank p L r →
    sum_below (G.blocks + 1) (λ k. part_rows (transformed S L) G k)
    + part_columns (transformed S L) G (G.blocks + 1) ≤ r

-- the first tail and the first k blocks are a minimiser
abbrev pub FirstPartsAreMinimisers : Type 0
FirstPartsAreMinimisers =
    (p : ℕ) → IsPrime p → (L : LayeredMatrix) (S : ℕ → ℕ → ℕ) (G : Parts) → IsForm p L S G → (k : ℕ) → k ≤ G.blocks →
    IsMinimiser p L (λ x. leb (G.column x) k)

-- canonical parts are at least as fine as every form
abbrev pub CanonicalPartsAreFinest : Type 0
CanonicalPartsAreFinest =
    (p : ℕ) → IsPrime p → (L : LayeredMatrix) (G : Parts) → AreCanonical p L G → (S : ℕ → ℕ → ℕ) (H : Parts) →
    IsForm p L S H → IsAsFine L G H

-- a form shows R(L): it is N less the columns that the first tail has more than rows
abbrev pub FormsShowTheRank : Type 0
FormsShowTheRank =
    (p : ℕ) → IsPrime p → (L : LayeredMatrix) (S : ℕ → ℕ → ℕ) (G : Parts) → IsForm p L S G → (r : ℕ) →
    IsLayeredRank p L r →
    r + part_columns (transformed S L) G 0 ≡ L.columns + part_rows (transformed S L) G 0

-- in a form with the S of a tableau whose pair is best, each row stands in the part of its base or matched column, and
-- the other rows stand last
abbrev pub RowsStandWithTheirColumns : Type 0
RowsStandWithTheirColumns =
    (p : ℕ) → IsPrime p → (L : LayeredMatrix) (S U : ℕ → ℕ → ℕ) (F : Tableau) → IsTableau p L S U F →
    IsBest p L F.base F.matched →
    (G : Parts) → IsForm p L S G → HasRows L F G

-- two forms with the same column parts have row parts of the same sizes
abbrev pub RowPartsHaveOneSize : Type 0
RowPartsHaveOneSize =
    (p : ℕ) → IsPrime p → (L : LayeredMatrix) (S T : ℕ → ℕ → ℕ) (G H : Parts) → IsForm p L S G → IsForm p L T H →
    G.blocks ≡ H.blocks → ((x : ℕ) → x < L.columns → G.column x ≡ H.column x) →
    (k : ℕ) → k ≤ G.blocks + 1 → part_rows (transformed S L) G k ≡ part_rows (transformed T L) H k
