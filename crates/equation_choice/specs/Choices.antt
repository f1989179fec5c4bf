-- Orders of equations as lists, and what is kept along them.
use Rattle.std.specs.Prelude.{ℕ, ◌<◌, ◌≡◌, Bool, true, List, length, slice_index}
use Rattle.residue_theory.specs.Sets.{everything}
use Rattle.exchange_graph.specs.Marks.{members_of}
use Rattle.mixed_model.specs.Layers.{Layers}
use Rattle.mixed_model.specs.Models.{MixedModel, mixed_matrix_of}
use Rattle.mixed_layering.specs.Layers.{AreLayersOf}
use Rattle.equation_matroid_laws.specs.GreedyChoices.{IsGreedyChoice, IsLine}

-- the list goes along the line, and has each of the first n equations
pub record IsAlong (n : ℕ) (before : ℕ → ℕ → Bool) (order : List ℕ) : Type 0 where
  pub line : IsLine before
  pub rising : (i j : ℕ) → i < j → j < length order → before (slice_index order i) (slice_index order j) ≡ true
  pub each : (e : ℕ) → e < n → (i : ℕ) × (i < length order) × (slice_index order i ≡ e)

-- whatever model of n equations has these layers, and whatever line the list goes along, the marked equations are the
-- greedy choice
abbrev pub HasKeptAlong : ℕ → Layers → ℕ → List ℕ → List Bool → Type 0
HasKeptAlong p l n order marks =
    (model : MixedModel) → AreLayersOf model l → length model.equations ≡ n →
    (before : ℕ → ℕ → Bool) → IsAlong n before order →
    IsGreedyChoice p (mixed_matrix_of model) before everything (members_of marks)
