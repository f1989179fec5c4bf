use Rattle.std.proofs.lemmas.Result.{IfErr-weaker, IfOk-weaker}
use Rattle.mixed_layering.specs.Layers.{origins_of}
use Rattle.mixed_model.specs.Layers.{layered_matrix_of}
use Rattle.mixed_model.specs.Models.{mixed_matrix_of}
use Rattle.cert_checker.proofs.OneVerdict.{kept-for, why-not}
use Rattle.cert_checker.proofs.checking.check.Goals as goal

pub returns-clause-right : goal.returns-clause-right
returns-clause-right g c =
    let layered = c.in_ok-layered.layered in
    let are = c.in_ok-layered.ensures in
    IfOk-weaker c.check_layered.result _ _
    (λ done each. kept-for g.F.Field.modulus g.met.F.Field.prime g.met.F.Field.odd
    (mixed_matrix_of c.args.model.now) c.args.form.now c.is_in_form.ensures (layered_matrix_of layered)
    (origins_of layered are.split) are.layered each) c.check_layered.ensures.kept

pub returns-clause-rejected : goal.returns-clause-rejected
returns-clause-rejected g c =
    let layered = c.in_ok-layered.layered in
    let are = c.in_ok-layered.ensures in
    IfErr-weaker c.check_layered.result _ _ (why-not g.F.Field.modulus g.met.F.Field.prime g.met.F.Field.odd
    (mixed_matrix_of c.args.model.now) c.args.form.now c.is_in_form.ensures
    (layered_matrix_of layered) (origins_of layered are.split) are.layered) c.check_layered.ensures.broken
