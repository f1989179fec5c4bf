use Rattle.std.proofs.Common.{refl}
use Rattle.ccf_builder.proofs.EachModel.{right-of-model}
use Rattle.report_cli.proofs.Certified.{right-form}
use Rattle.report_cli.proofs.output.Output.report.Goals as goal

pub report-requires : goal.report-requires
report-requires g c =
    let promise = c.in_ok-ccf.ensures in
    right-form g.F.Field.modulus c.args.model c.in_ok-layered.layered c.in_ok-ccf.ccf c.is_model.ensures c.in_ok-layered.ensures
    (right-of-model g.F.Field.modulus c.args.model c.in_ok-layered.layered c.in_ok-ccf.ccf c.is_model.ensures c.in_ok-layered.ensures
    promise.shape promise.transform promise.pair_and_rank promise.block_triangular_form promise.ideals promise.canonical_listing)

pub returns : goal.returns
returns g c = λ kind named input gives.
    let promise = c.in_ok-ccf.ensures in
    let right = right-of-model g.F.Field.modulus c.args.model c.in_ok-layered.layered c.in_ok-ccf.ccf c.is_model.ensures c.in_ok-layered.ensures
    promise.shape promise.transform promise.pair_and_rank promise.block_triangular_form promise.ideals promise.canonical_listing in
    (kind, named, refl, gives, c.in_ok-told.ensures c.args.model c.is_model.ensures c.in_ok-layered.ensures right)
