use Rattle.std.proofs.Common.{◌≡◌, true, false, ap, ◌++◌, ◌∙◌}
use Rattle.std.specs.String.{string_bytes}
use Rattle.std.proofs.lemmas.Result.{on_ok_weaker}
use Rattle.unit_equations.proofs.Numbers.{less_is}
use Rattle.unit_equations.proofs.summands.Summands.less.Goals as goal

pub returns : goal.returns
returns g c =
    on_ok_weaker c.put.result
    (λ put. put ∙ ap (λ more. c.args.self.now ++ more)
    (less_is g.F.Field.modulus (g.F.Field.number c.args.number) _
    (string_bytes c.args.unknown) c.in_field.ensures c.neg-negative.ensures.below c.neg-negative.ensures.negative
    (λ zero. let f : false ≡ true = c.if-is_zero.ensures.1 zero in cc)))
    c.put.ensures
