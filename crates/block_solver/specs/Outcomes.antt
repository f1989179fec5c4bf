-- What the blocks of a form tell of a model that has as many equations as unknowns, as many as its structural rank.
use Rattle.std.specs.Prelude.{ℕ, ◌<◌, ◌≤◌, ◌≡◌, List, length, map, slice_index}
use Rattle.mixed_matrices.specs.Models.{MixedMatrix}
use Rattle.mixed_model.specs.Layers.{Layers}
use Rattle.cert_text.specs.Contents.{Contents}
use Rattle.block_solver.specs.declared.answer.Outcome.{Outcome}
use Rattle.block_solver.specs.declared.answer.Outcome.TheVariants.{Dependent, Solved}
use Rattle.block_solver.specs.Solving.{IsLastSingular, IsModelSolution}

-- the numbers of y are those of x at the unknowns, of which there are u
pub record AreUnknownsOf (u : ℕ) (x y : List ℕ) : Type 0 where
  pub count : length y ≡ u
  pub same : (j : ℕ) → j < u → slice_index y j ≡ slice_index x j

-- the numbers of all columns have those of a solution at the unknowns
abbrev pub IsOutcomeFor : {T : Type 0} → (T → ℕ) → ℕ → MixedMatrix → Layers → Contents → (ℕ → ℕ → ℕ) → (ℕ → ℕ) →
    Outcome T → Type 0
IsOutcomeFor number p M layers c v b (Dependent k) = IsLastSingular p M layers c v k
IsOutcomeFor number p M layers c v b (Solved x) = (M.columns ≤ length x)
    × ((y : List ℕ) → AreUnknownsOf M.columns (map number x) y → IsModelSolution p M v b y)
