-- A solution is answered exactly where the matrix of the model is regular.
use Rattle.std.proofs.Common.{◌≡◌, ℕ, ◌↔◌, true, inl, inr, refl, arith}
use Rattle.residue_theory.specs.Sets.{everything}
use Rattle.residue_theory.proofs.SetLaws.{differ}
use Rattle.linear_algebra.specs.Columns.{IsRank}
use Rattle.mixed_matrices.specs.Models.{MixedMatrix, value}
use Rattle.mixed_model.specs.Layers.{Layers}
use Rattle.cert_text.specs.Contents.{Contents}
use Rattle.block_solver.specs.declared.answer.Answer.{Answer}
use Rattle.block_solver.specs.declared.answer.Answer.TheVariants.{Open, Singular, Solution}
use Rattle.block_solver.specs.Solving.{HasFullRank, IsSolvingOf}
use Rattle.block_solver.specs.SolvingLaws.{is_solution}

pub solutions-told : {T : Type 0} (number : T → ℕ) (p : ℕ) (M : MixedMatrix) (layers : Layers) (c : Contents) (v : ℕ → ℕ → ℕ) (b : ℕ → ℕ)
    (answer : Answer T) → HasFullRank p M → IsSolvingOf number p M layers c v b answer →
    (is_solution answer ≡ true) ↔ IsRank p (value M v) M.rows M.columns everything M.columns
solutions-told number p M layers c v b Open full told = (
  λ e. absurd (differ refl e),
  λ _. absurd (elim (told M.rows full.rank) [
    | inl less ↦ omega (arith, less)
    | inr less ↦ omega (arith, less, full.square)
  ]),
)
solutions-told number p M layers c v b (Singular k) full told = (λ e. absurd (differ refl e), λ rank. absurd (omega (arith, told.model M.columns rank)))
solutions-told number p M layers c v b (Solution x) full told = (λ _. told.regular, λ _. refl)
