use Rattle.std.proofs.Common.{List, ℕ, subst}
use Rattle.input_problems.specs.ProblemTexts.{GivesProblem}
use Rattle.problem_heads.specs.declared.form.Form.TheVariants as forms
use Rattle.study_outputs.proofs.Priced.{priced}
use Rattle.study_outputs.proofs.studied.Studied.repaired.Goals as goal

pub by_problem-requires : goal.by_problem-requires
by_problem-requires g c =
    priced g.F.Field.number g.F.Field.modulus c.args.kind c.deref.result.now c.in_ok-model.model c.in_ok-model.problem
    c.in_ok-model.ensures.problem

pub returns-clause-right : goal.returns-clause-right
returns-clause-right g c =
    let Gives = λ (text : List ℕ). GivesProblem g.F.Field.number g.F.Field.modulus c.args.kind forms.Repair text
    c.in_ok-model.model c.in_ok-model.problem in
    let gives = subst Gives c.deref.ensures.value c.in_ok-model.ensures.problem in
    c.in_ok-by_problem.ensures c.args.kind c.args.text.items gives
