-- What the answers of solving tell of the model's matrix.
use Rattle.std.specs.Prelude.{ℕ, ◌≡◌, ◌↔◌, Bool, true, false}
use Rattle.residue_theory.specs.Sets.{everything}
use Rattle.linear_algebra.specs.Columns.{IsRank}
use Rattle.mixed_matrices.specs.Models.{MixedMatrix, value}
use Rattle.mixed_model.specs.Layers.{Layers}
use Rattle.cert_text.specs.Contents.{Contents}
use Rattle.block_solver.specs.declared.answer.Answer.{Answer}
use Rattle.block_solver.specs.declared.answer.Answer.TheVariants.{Open, Singular, Solution}
use Rattle.block_solver.specs.Solving.{HasFullRank, IsSolvingOf}

-- whether an answer is a solution
abbrev pub is_solution : {T : Type 0} → Answer T → Bool
is_solution Open = false
is_solution (Singular k) = false
is_solution (Solution x) = true

-- where R(M) is the number of equations and of unknowns, a solution is answered exactly where M(v) is regular
abbrev pub SolutionsTellRegularModels : {T : Type 0} → (T → ℕ) → ℕ → Type 0
SolutionsTellRegularModels {T} number p =
    (M : MixedMatrix) (layers : Layers) (c : Contents) (v : ℕ → ℕ → ℕ) (b : ℕ → ℕ) (answer : Answer T) →
    HasFullRank p M → IsSolvingOf number p M layers c v b answer →
    (is_solution answer ≡ true) ↔ IsRank p (value M v) M.rows M.columns everything M.columns
