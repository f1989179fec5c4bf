use Rattle.std.proofs.Common.{sym}
use Rattle.std.proofs.lemmas.Result.{IfOk-weaker}
use Rattle.mixed_model.specs.Models.{mixed_matrix_of}
use Rattle.model_studies.proofs.conflicts.conflicts_of.Goals as goal

pub returns : goal.returns
returns g c = IfOk-weaker c.listed.result _ _ (λ conflicts told.
    told g.F.Field.modulus (mixed_matrix_of c.args.model.now) (sym c.equations.ensures.count) c.in_ok-sets.ensures) c.listed.ensures
