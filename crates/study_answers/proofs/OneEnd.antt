-- Two solvings of one problem end alike.
use Rattle.std.proofs.Common.{◌≡◌, ◌⊎◌, ℕ, ◌<◌, ◌≤◌, List, inl, inr, refl, arith}
use Rattle.mixed_matrices.specs.Models.{MixedMatrix}
use Rattle.mixed_model.specs.Layers.{Layers}
use Rattle.mixed_model.specs.Models.{MixedModel}
use Rattle.block_solver.specs.Solving.{HasFullRank}
use Rattle.study_answers.specs.Solvings.{IsOpen, IsSolvingBy, is_solution}
use Rattle.study_answers.specs.declared.solving.Solving.{Solving}
use Rattle.study_answers.specs.declared.solving.Solving.TheVariants.{Open, Singular, Solution}

-- what is open has no full rank
not-full : (p : ℕ) (M : MixedMatrix) (rank : ℕ) → IsOpen p M rank → HasFullRank p M → ⊥
not-full p M rank (is, low) full = go low
  where
    most : M.rows ≤ rank
    most = is.greatest full.rank.reached.0 M.rows full.rank.reached.1

    go : (rank < M.rows) ⊎ (rank < M.columns) → ⊥
    go (inl less) = omega (arith, less, most)
    go (inr less) = omega (arith, less, most, full.square)

pub ends-alike : {T U : Type 0} (number : T → ℕ) (numbered : U → ℕ) (p : ℕ) (model : MixedModel) (values right : List ℕ)
    (layers others : Layers) (a : Solving T) (b : Solving U) → IsSolvingBy number p model layers values right a →
    IsSolvingBy numbered p model others values right b → is_solution a ≡ is_solution b
ends-alike number numbered p model values right layers others (Open rank) (Open ranked) one two = refl
ends-alike number numbered p model values right layers others (Open rank) (Singular k columns) one two = refl
ends-alike number numbered p model values right layers others (Open rank) (Solution x) one two = absurd (not-full p _ rank one two.0.full)
ends-alike number numbered p model values right layers others (Singular k columns) (Open rank) one two = refl
ends-alike number numbered p model values right layers others (Singular k columns) (Singular l others_columns) one two = refl
ends-alike number numbered p model values right layers others (Singular k columns) (Solution x) one two =
    absurd (omega (arith, one.last.model _ two.0.regular))
ends-alike number numbered p model values right layers others (Solution x) (Open rank) one two = absurd (not-full p _ rank two one.0.full)
ends-alike number numbered p model values right layers others (Solution x) (Singular k columns) one two =
    absurd (omega (arith, two.last.model _ one.0.regular))
ends-alike number numbered p model values right layers others (Solution x) (Solution y) one two = refl
