use Rattle.std.proofs.Common.{map}
use Rattle.problem_heads.specs.declared.form.Form.TheVariants.{Repair}
use Rattle.problem_heads.proofs.LineSteps.{equation-told}
use Rattle.problem_heads.proofs.repair_lines.RepairLines.read_cost.Goals as goal

pub returns : goal.returns
returns c =
    equation-told (λ cost. cost) 0 Repair c.args.line c.in-Some.equation.now c.in-Some.text.now c.in_ok-cost.cost c.in_ok-cost.ensures
    c.self.inside.lines c.add_for_equation.new.self c.args.self.now (map (λ word. word.1) c.args.words) c.add_for_equation.result
    c.self.view_is c.in-Some.ensures c.add_for_equation.ensures
