use Rattle.mixed_model.specs.Layers.{layered_matrix_of}
use Rattle.mixed_model.specs.Models.{mixed_matrix_of}
use Rattle.cert_checker.proofs.JoinedRules.{printed, tells-broken, tells-kept}
use Rattle.cert_checker.proofs.checking.check_layered.Goals as goal

pub returns-clause-kept : goal.returns-clause-kept
returns-clause-kept g c =
    let p = g.F.Field.modulus in
    let M = mixed_matrix_of c.args.model.now in
    let L = layered_matrix_of c.args.layered.now in
    let form = c.args.form.now in
    tells-kept p M L form c.in_ok-parts.ensures.kept.0 c.check_parts.result (c.check_parts.ensures L (printed p M L form c.in_ok-parts.ensures.kept.0))

pub returns-clause-broken : goal.returns-clause-broken
returns-clause-broken g c =
    let p = g.F.Field.modulus in
    let M = mixed_matrix_of c.args.model.now in
    let L = layered_matrix_of c.args.layered.now in
    let form = c.args.form.now in
    tells-broken p M L form c.in_ok-parts.ensures.kept.0 c.check_parts.result (c.check_parts.ensures L (printed p M L form c.in_ok-parts.ensures.kept.0))
