use Rattle.std.proofs.Common.{map}
use Rattle.problem_heads.specs.declared.form.Form.TheVariants.{Solve}
use Rattle.problem_heads.proofs.LineSteps.{equation-told}
use Rattle.problem_heads.proofs.solve_lines.SolveLines.read_right.Goals as goal

pub returns : goal.returns
returns g c =
    equation-told g.F.Field.number g.F.Field.modulus Solve c.args.line c.in-Some.equation.now c.in-Some.text.now c.in_ok-value.value
    c.in_ok-value.ensures c.self.inside.lines c.add_for_equation.new.self c.args.self.now (map (λ word. word.1) c.args.words)
    c.add_for_equation.result c.self.view_is c.in-Some.ensures c.add_for_equation.ensures
