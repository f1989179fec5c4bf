use Rattle.std.proofs.Common.{refl, sym, subst}
use Rattle.std.proofs.lemmas.Result.{err_from_is_err_and}
use Rattle.problem_heads.specs.Misfits.{IsWhyNoProblem}
use Rattle.problem_heads.specs.declared.form.Form.TheVariants.{Solve}
use Rattle.problem_heads.proofs.AttachSteps.{missing-why, solve-seen, undeclared-misfit}
use Rattle.problem_heads.proofs.attaching.attach_values.Goals as goal

pub returns-in_err-test_names-clause-refused : goal.returns-in_err-test_names-clause-refused
returns-in_err-test_names-clause-refused g c =
    let failed = err_from_is_err_and c.from_residual.result c.from_residual.ensures.1 in
    rw failed.1
    (subst (λ why. IsWhyNoProblem Solve c.args.head.now.numbers c.args.model.now why) (sym failed.2)
    (undeclared-misfit g.F.Field.number c.head.inside.lines c.args.head.now c.head.view_is c.args.model.now Solve c.in_err-test_names.field-0.0
    c.in_err-test_names.ensures))

pub returns-in_err-values-clause-refused : goal.returns-in_err-values-clause-refused
returns-in_err-values-clause-refused g c =
    let failed = err_from_is_err_and c.from_residual-in_err-values.result c.from_residual-in_err-values.ensures.1 in
    rw failed.1
    (subst (λ why. IsWhyNoProblem Solve c.args.head.now.numbers c.args.model.now why) (sym failed.2)
    (missing-why g.F.Field.number c.head.inside.lines c.args.head.now c.head.view_is c.args.model.now c.in_err-values.field-0.0
    c.in_ok-test_names.ensures c.in_err-values.ensures.missing))

pub returns-clause-problem : goal.returns-clause-problem
returns-clause-problem g c = (
  refl,
  solve-seen g.F.Field.number c.head.inside.lines c.args.head.now c.head.view_is c.args.model.now c.in_ok-values.values.items
      c.in_ok-right.right.items c.zero.result c.zero.ensures c.in_ok-test_names.ensures c.in_ok-values.ensures.values c.in_ok-right.ensures,
)
