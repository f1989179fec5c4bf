use Rattle.std.proofs.Common.{◌≡◌, None, get_or, ap, arith}
use Rattle.cert_text.specs.declared.kind.Kind.TheVariants.{Flowsheet, Matrix, Netlist}
use Rattle.answer_laws.proofs.EmptyInput.{empty-answer}
use Rattle.answer_laws.proofs.no_answers.no_column_is_made_up.Goals as goal

pub returns : goal.returns
returns c = elim [
  | Matrix ↦ λ words asks answer. let other : 54 ≡ 124 = ap (λ t. get_or t 82 0) (empty-answer words Matrix None _ asks answer) in absurd (omega (arith, other))
  | Netlist ↦ λ words asks answer. let other : 54 ≡ 124 = ap (λ t. get_or t 83 0) (empty-answer words Netlist None _ asks answer) in absurd
      (omega (arith, other))
  | Flowsheet ↦ λ words asks answer. let other : 54 ≡ 124 = ap (λ t. get_or t 85 0)
      (empty-answer words Flowsheet None _ asks answer) in absurd (omega (arith, other))
]
