-- Laws of parts that keep the rules beside a tableau: they are a form.
use Rattle.std.specs.Prelude.{◌≡◌, ◌<◌, ℕ, Bool, true}
use Rattle.residue_theory.specs.Residues.{IsPrime}
use Rattle.closed_sets.specs.Blocks.{AreParts, IsBelow}
use Rattle.closed_sets.specs.Orders.{IsCover}
use Rattle.closed_sets.specs.Walks.{ReachesOn}
use Rattle.mixed_matrices.specs.Arcs.{HasNoWalk, is_end, is_free, leads_to}
use Rattle.mixed_matrices.specs.CheckerRules.{HasRows, KeepsPartRules, block_of, in_first, in_last}
use Rattle.mixed_matrices.specs.Forms.{IsForm, IsOrdered, Parts}
use Rattle.mixed_matrices.specs.LayeredMatrices.{LayeredMatrix}
use Rattle.mixed_matrices.specs.Tableaus.{IsTableau, Tableau}

-- no end is reached from a free column, so the pair is best
abbrev pub CheckedPartsHaveNoWalk : Type 0
CheckedPartsHaveNoWalk = (p : ℕ) (L : LayeredMatrix) (F : Tableau) (G : Parts) (below lower : ℕ → ℕ → Bool) →
    KeepsPartRules p L F G below lower → HasNoWalk p L F

-- the parts, with the S of the tableau, are a form
abbrev pub CheckedPartsAreAForm : Type 0
CheckedPartsAreAForm =
    (p : ℕ) → IsPrime p → (L : LayeredMatrix) (S U : ℕ → ℕ → ℕ) (F : Tableau) → IsTableau p L S U F →
    (G : Parts) (below lower : ℕ → ℕ → Bool) → KeepsPartRules p L F G below lower → IsForm p L S G

-- with the order of their blocks, which is that of the chains of the lower lists
abbrev pub CheckedPartsAreOrdered : Type 0
CheckedPartsAreOrdered =
    (p : ℕ) → IsPrime p → (L : LayeredMatrix) (S U : ℕ → ℕ → ℕ) (F : Tableau) → IsTableau p L S U F →
    (G : Parts) (below lower : ℕ → ℕ → Bool) → KeepsPartRules p L F G below lower →
    IsOrdered p L S G (λ k l. below k l ≡ true) × IsOrdered p L S G (λ k l. ReachesOn lower G.blocks l k)

-- the parts of the arcs, with the order and the lower lists of their blocks, keep the rules where their rows do
abbrev pub PartsOfTheArcsKeepTheRules : Type 0
PartsOfTheArcsKeepTheRules =
    (p : ℕ) (L : LayeredMatrix) (F : Tableau) (G : Parts) (below lower : ℕ → ℕ → Bool) → HasNoWalk p L F →
    AreParts (leads_to p L F) L.columns (is_free F) (is_end p L F) (in_first G) (in_last G) (block_of G) G.blocks →
    IsBelow (leads_to p L F) L.columns (is_free F) (is_end p L F) (block_of G) G.blocks below →
    IsCover below G.blocks lower → ((k l : ℕ) → lower l k ≡ true → (k < G.blocks) × (l < G.blocks)) → HasRows L F G →
    KeepsPartRules p L F G below lower
