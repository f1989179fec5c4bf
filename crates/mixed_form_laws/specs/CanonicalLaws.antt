-- Laws of parts that keep the rules beside a tableau: they are the canonical parts, with their order and lower lists.
use Rattle.std.specs.Prelude.{◌≡◌, ◌<◌, ◌↔◌, ℕ, Bool, true}
use Rattle.residue_theory.specs.Residues.{IsPrime}
use Rattle.mixed_matrices.specs.CanonicalParts.{AreCanonical, AreRightParts, IsBlockBelow, IsIdealOf, IsLowerBlock}
use Rattle.mixed_matrices.specs.CheckerRules.{KeepsPartRules}
use Rattle.mixed_matrices.specs.Forms.{Parts}
use Rattle.mixed_matrices.specs.LayeredMatrices.{LayeredMatrix}
use Rattle.mixed_matrices.specs.Pairs.{IsBest}
use Rattle.mixed_matrices.specs.SetFunctions.{IsMinimiser}
use Rattle.mixed_matrices.specs.Tableaus.{HasTableau, IsTableau, Tableau}

abbrev pub CheckedPartsAreCanonical : Type 0
CheckedPartsAreCanonical =
    (p : ℕ) → IsPrime p → (L : LayeredMatrix) (F : Tableau) → HasTableau p L F →
    (G : Parts) (below lower : ℕ → ℕ → Bool) → KeepsPartRules p L F G below lower → AreCanonical p L G

-- below is the order of the canonical parts
abbrev pub CheckedOrderIsCanonical : Type 0
CheckedOrderIsCanonical =
    (p : ℕ) → IsPrime p → (L : LayeredMatrix) (F : Tableau) → HasTableau p L F →
    (G : Parts) (below lower : ℕ → ℕ → Bool) → KeepsPartRules p L F G below lower → (k l : ℕ) →
    k < G.blocks → l < G.blocks →
    (below k l ≡ true) ↔ IsBlockBelow p L G k l

-- the printed lists are the lower lists
abbrev pub CheckedListsAreCanonical : Type 0
CheckedListsAreCanonical =
    (p : ℕ) → IsPrime p → (L : LayeredMatrix) (F : Tableau) → HasTableau p L F →
    (G : Parts) (below lower : ℕ → ℕ → Bool) → KeepsPartRules p L F G below lower → (k l : ℕ) →
    k < G.blocks → l < G.blocks →
    (lower l k ≡ true) ↔ IsLowerBlock p L G k l

-- a column set is a minimiser exactly where it is an ideal
abbrev pub IdealsAreTheMinimisers : Type 0
IdealsAreTheMinimisers =
    (p : ℕ) → IsPrime p → (L : LayeredMatrix) (F : Tableau) → HasTableau p L F →
    (G : Parts) (below lower : ℕ → ℕ → Bool) → KeepsPartRules p L F G below lower → (X : ℕ → Bool) →
    IsMinimiser p L X ↔ ((B : ℕ → Bool) × IsIdealOf L G below B X)

-- every layered matrix has its canonical form
abbrev pub EachLayeredMatrixHasACanonicalForm : Type 0
EachLayeredMatrixHasACanonicalForm =
    (p : ℕ) → IsPrime p → (L : LayeredMatrix) →
    (S : ℕ → ℕ → ℕ) × (G : Parts) × (below : ℕ → ℕ → Bool) × (lower : ℕ → ℕ → Bool) × AreRightParts p L S G below lower

-- and only one choice of canonical parts
abbrev pub CanonicalPartsAreOne : Type 0
CanonicalPartsAreOne =
    (p : ℕ) → IsPrime p → (L : LayeredMatrix) (G H : Parts) → AreCanonical p L G → AreCanonical p L H →
    (G.blocks ≡ H.blocks) × ((x : ℕ) → x < L.columns → G.column x ≡ H.column x)

-- beside a tableau, parts keep the rules exactly where its pair is best and they are right
abbrev pub RulesAreKeptByRightParts : Type 0
RulesAreKeptByRightParts =
    (p : ℕ) → IsPrime p → (L : LayeredMatrix) (S U : ℕ → ℕ → ℕ) (F : Tableau) → IsTableau p L S U F →
    (G : Parts) (below lower : ℕ → ℕ → Bool) → ((k l : ℕ) → lower l k ≡ true → (k < G.blocks) × (l < G.blocks)) →
    KeepsPartRules p L F G below lower ↔ (IsBest p L F.base F.matched × AreRightParts p L S G below lower)
