use Rattle.std.proofs.Common.{ap, sym, subst, ◌∙◌}
use Rattle.std.proofs.lemmas.Result.{err_from_is_err_and}
use Rattle.problem_heads.specs.HeadsRead.{HeadView}
use Rattle.input_problems.specs.ProblemTexts.{IsWhyNoProblemOf}
use Rattle.input_problems.proofs.ReadingSteps.{no-head, no-problem, none-behind, problem-given}
use Rattle.input_problems.proofs.reading.read_problem.Goals as goal

pub returns-in_err-head-clause-refused : goal.returns-in_err-head-clause-refused
returns-in_err-head-clause-refused g c =
    let p = g.F.Field.modulus in
    let failed = err_from_is_err_and c.from_residual.result c.from_residual.ensures.1 in
    rw failed.1
    (subst (λ why. IsWhyNoProblemOf p c.args.kind c.args.form c.args.text.now why) (sym failed.2)
    (no-head p c.args.kind c.args.form c.args.text.now c.in_err-head.field-0.0 c.in_err-head.ensures.refused))

pub read_behind-requires-clause-start : goal.read_behind-requires-clause-start
read_behind-requires-clause-start g c = c.start.ensures ∙ ap (λ (view : HeadView). view.start) c.in_ok-head.ensures.head

pub read_behind-requires-clause-lines : goal.read_behind-requires-clause-lines
read_behind-requires-clause-lines g c = c.lines.ensures ∙ ap (λ (view : HeadView). view.lines) c.in_ok-head.ensures.head

pub returns-in_err-model-clause-refused : goal.returns-in_err-model-clause-refused
returns-in_err-model-clause-refused g c =
    let p = g.F.Field.modulus in
    let failed = err_from_is_err_and c.from_residual-in_err-model.result c.from_residual-in_err-model.ensures.1 in
    rw failed.1
    (subst (λ why. IsWhyNoProblemOf p c.args.kind c.args.form c.args.text.now why) (sym failed.2)
    (none-behind p c.args.kind c.args.form c.args.text.now c.in_err-model.field-0.0 c.in_ok-head.ensures.kept c.in_err-model.ensures.refused))

pub returns-in_err-problem-clause-refused : goal.returns-in_err-problem-clause-refused
returns-in_err-problem-clause-refused g c =
    let p = g.F.Field.modulus in
    let failed = err_from_is_err_and c.from_residual-in_err-problem.result c.from_residual-in_err-problem.ensures.1 in
    rw failed.1
    (subst (λ why. IsWhyNoProblemOf p c.args.kind c.args.form c.args.text.now why) (sym failed.2)
    (no-problem p c.args.kind c.args.form c.args.text.now c.in_ok-head.head c.in_ok-head.ensures.head c.in_ok-head.ensures.kept
    c.in_ok-model.model c.in_ok-model.ensures.model c.in_err-problem.field-0.0 c.in_err-problem.ensures.refused))

pub returns-clause-problem : goal.returns-clause-problem
returns-clause-problem g c =
    problem-given g.F.Field.modulus c.args.kind c.args.form c.args.text.now c.in_ok-head.head c.in_ok-head.ensures.head
    c.in_ok-head.ensures.kept c.in_ok-model.model c.in_ok-model.ensures.model g.F.Field.number c.in_ok-problem.problem
    c.in_ok-problem.ensures.problem
