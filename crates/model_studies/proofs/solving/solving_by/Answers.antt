use Rattle.model_studies.proofs.RightForms.{open-told}
use Rattle.model_studies.proofs.solving.solving_by.Goals as goal

pub returns-in-Open : goal.returns-in-Open
returns-in-Open g c =
    open-told g.F.Field.number g.F.Field.modulus c.args.model.now c.args.layered.now c.args.form.now _ _ c.rank.result c.in_ok-solve.field-0
    c.requires.form c.rank.ensures.rank c.in-Open.is c.in_ok-solve.ensures
