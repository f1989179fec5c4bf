use Rattle.std.proofs.Common.{List, ℕ, subst}
use Rattle.input_problems.specs.ProblemTexts.{GivesProblem}
use Rattle.problem_heads.specs.declared.form.Form.TheVariants as forms
use Rattle.study_outputs.proofs.Solved.{solvable}
use Rattle.study_outputs.proofs.studied.Studied.solved.Goals as goal

pub by_layers-requires : goal.by_layers-requires
by_layers-requires g c =
    solvable g.F.Field.number g.F.Field.modulus c.args.kind c.deref.result.now c.in_ok-model.model c.in_ok-model.problem c.in_ok-model.ensures.problem

pub returns-clause-right : goal.returns-clause-right
returns-clause-right g c =
    let Gives = λ (text : List ℕ). GivesProblem g.F.Field.number g.F.Field.modulus c.args.kind forms.Solve text
    c.in_ok-model.model c.in_ok-model.problem in
    let gives = subst Gives c.deref.ensures.value c.in_ok-model.ensures.problem in
    c.in_ok-by_layers.ensures c.args.kind c.args.text.items gives
