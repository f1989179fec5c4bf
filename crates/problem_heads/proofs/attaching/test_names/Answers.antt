use Rattle.std.proofs.Common.{ap, sym}
use Rattle.refusals.specs.declared.Place.TheVariants.{Line}
use Rattle.refusals.specs.declared.Why.TheVariants.{Undeclared}
use Rattle.problem_heads.specs.HeadNumbers.{HeadNumber}
use Rattle.problem_heads.specs.Problems.{first_undeclared}
use Rattle.problem_heads.proofs.Declared.{mapped-Some}
use Rattle.problem_heads.proofs.attaching.test_names.Goals as goal

pub returns-in-Some : goal.returns-in-Some
returns-in-Some g c =
    let (given, first, line_is) =
    mapped-Some (λ (given : HeadNumber g.row.N.Denot). given.line) (first_undeclared c.args.model.now c.args.lines.now.numbers)
    c.in-Some.line (sym c.in-Some.ensures) in
    (given, first, ap (λ n. record { place = Line n; why = Undeclared }) (sym line_is))
