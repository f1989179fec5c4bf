use Rattle.std.proofs.Common.{refl, ap, sym, subst, inr, ◌∙◌, length}
use Rattle.std.proofs.lemmas.Result.{err_from_is_err_and}
use Rattle.problem_heads.specs.Misfits.{IsWhyNoProblem}
use Rattle.problem_heads.specs.Problems.{different}
use Rattle.problem_heads.specs.declared.form.Form.TheVariants.{Repair}
use Rattle.problem_heads.proofs.AttachSteps.{all-declared, costs-few, costs-many, undeclared-misfit}
use Rattle.problem_heads.proofs.attaching.attach_costs.Goals as goal

pub returns-in_err-test_names-clause-refused : goal.returns-in_err-test_names-clause-refused
returns-in_err-test_names-clause-refused g c =
    let failed = err_from_is_err_and c.from_residual.result c.from_residual.ensures.1 in
    rw failed.1
    (subst (λ why. IsWhyNoProblem Repair c.args.head.now.numbers c.args.model.now why) (sym failed.2)
    (undeclared-misfit (λ cost. cost) c.head.inside.lines c.args.head.now c.head.view_is c.args.model.now Repair c.in_err-test_names.field-0.0
    c.in_err-test_names.ensures))

pub returns-then-branch-gt-MOST_LEVELS-clause-refused :
    goal.returns-then-branch-gt-MOST_LEVELS-clause-refused
returns-then-branch-gt-MOST_LEVELS-clause-refused g c =
    inr (
      all-declared (λ cost. cost) c.head.inside.lines c.args.head.now c.head.view_is c.args.model.now c.in_ok-test_names.ensures,
      (
        refl,
        costs-many c.head.inside.lines c.args.head.now c.head.view_is c.args.model.now c.in_ok-costs.costs.items c.in_ok-costs.ensures
            c.in_ok-test_names.ensures c.in_ok-count_different.field-0
            (c.in_ok-count_different.ensures ∙ ap (λ costs. length (different costs)) c.deref.ensures.value) c.if-branch-gt-MOST_LEVELS.true,
      ),
    )

pub returns-clause-problem : goal.returns-clause-problem
returns-clause-problem g c = (
  refl,
  costs-few c.head.inside.lines c.args.head.now c.head.view_is c.args.model.now c.in_ok-costs.costs.items c.in_ok-costs.ensures
      c.in_ok-test_names.ensures c.in_ok-count_different.field-0
      (c.in_ok-count_different.ensures ∙ ap (λ costs. length (different costs)) c.deref.ensures.value) c.if-branch-gt-MOST_LEVELS.false,
)
