-- A size has one model.
use Rattle.std.proofs.Common.{◌≡◌, ℕ, ◌<◌, ap, sym, length, ◌∙◌, arith}
use Rattle.mixed_model.specs.Models.{IsModel, MixedModel}
use Rattle.mixed_model.proofs.ModelLaws.{same_models}
use Rattle.made_models.specs.MadeModels.{IsMade}
use Rattle.made_models.proofs.NameLaws.{numbered_names-length}

pub made-one : (p n : ℕ) (a b : MixedModel) → IsModel p a → IsModel p b → IsMade n a → IsMade n b → a ≡ b
made-one p n a b is_a is_b made also =
    let rows : length a.equations ≡ n = ap length made.equations ∙ numbered_names-length 101 n in
    let columns : length a.unknowns ≡ n = ap length made.unknowns ∙ numbered_names-length 120 n in
    same_models p a b is_a is_b (made.equations ∙ sym also.equations) (made.unknowns ∙ sym also.unknowns)
    (λ i j row column.
    let at : i < n = omega arith in
    let under : j < n = omega arith in
    made.constants i j at under ∙ sym (also.constants i j at under))
    (λ i j row column.
    let at : i < n = omega arith in
    let under : j < n = omega arith in
    made.symbols i j at under ∙ sym (also.symbols i j at under))
