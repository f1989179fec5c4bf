use Rattle.std.proofs.Common.{sym}
use Rattle.mixed_model.proofs.NameLaws.{has_name-None, has_name-Some}
use Rattle.model_edits.proofs.SettingSteps.{not_there, there}
use Rattle.model_edits.proofs.changes.find_equation.Goals as goal

pub returns-in-Some-clause-rule : goal.returns-in-Some-clause-rule
returns-in-Some-clause-rule g c =
    let found = has_name-Some c.args.model.now.equations c.args.equation.now _ (sym c.in-Some.ensures) in
    there c.args.model.now.equations c.args.equation.now c.in_ok-name.ensures found.2

pub returns-in-None-clause-rule : goal.returns-in-None-clause-rule
returns-in-None-clause-rule g c =
    not_there c.args.model.now.equations c.args.equation.now c.in_ok-name.ensures
    (has_name-None c.args.model.now.equations c.args.equation.now (sym c.in-None.ensures))
