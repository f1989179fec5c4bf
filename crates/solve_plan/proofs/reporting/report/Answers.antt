use Rattle.std.proofs.Common.{ap, subst, sym}
use Rattle.solve_plan.specs.Marks.{AreMembersOf}
use Rattle.solve_plan.specs.Surplus.{IsToldSurplus}
use Rattle.solve_plan.specs.declared.told.Report.{Report}
use Rattle.solve_plan.proofs.ReportLaws.{report-made, right-columns, right-fits}
use Rattle.solve_plan.proofs.reporting.report.Goals as goal

pub surplus-requires : goal.surplus-requires
surplus-requires g c = right-fits g.F.Field.modulus c.args.layered.now c.args.form.now c.are_layers.ensures c.requires

pub undetermined-requires : goal.undetermined-requires
undetermined-requires g c = right-columns g.F.Field.modulus c.args.layered.now c.args.form.now c.are_layers.ensures c.requires

pub returns : goal.returns
returns g c =
    let told : Report = record {
      equations = c.shape-shape.result.equations;
      unknowns = c.shape-shape.result.unknowns;
      rank = c.rank.result;
      surplus = c.from_vec.result;
      undetermined = c.from_vec-2.result;
    } in
    report-made g.F.Field.modulus g.met.F.Field.prime g.met.F.Field.odd c.args.layered.now c.args.form.now c.are_layers.ensures c.shape-shape.ensures.ccf told
    (ap (λ s. s.equations) c.shape-shape.ensures.shape) (ap (λ s. s.unknowns) c.shape-shape.ensures.shape) c.rank.ensures.rank
    (subst (AreMembersOf c.args.form.now.shape.equations (IsToldSurplus c.args.layered.now c.args.form.now)) (sym c.from_vec.ensures) c.in_ok-surplus.ensures)
    (subst (AreMembersOf _ _) (sym c.from_vec-2.ensures) c.in_ok-undetermined.ensures)
