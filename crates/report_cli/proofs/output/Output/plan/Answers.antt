use Rattle.std.proofs.Common.{refl}
use Rattle.ccf_builder.proofs.EachModel.{right-of-model}
use Rattle.report_cli.proofs.Certified.{right-form}
use Rattle.report_cli.proofs.output.Output.plan.Goals as goal

pub plan-requires : goal.plan-requires
plan-requires g c =
    let promise = c.in_ok-ccf.ensures in
    right-form g.F.Field.modulus c.args.model c.in_ok-layered.layered c.in_ok-ccf.ccf c.is_model.ensures c.in_ok-layered.ensures
    (right-of-model g.F.Field.modulus c.args.model c.in_ok-layered.layered c.in_ok-ccf.ccf c.is_model.ensures c.in_ok-layered.ensures
    promise.shape promise.transform promise.pair_and_rank promise.block_triangular_form promise.ideals promise.canonical_listing)

pub returns : goal.returns
returns g c = λ kind named input gives.
    let promise = c.in_ok-ccf.ensures in
    let right = right-of-model g.F.Field.modulus c.args.model c.in_ok-layered.layered c.in_ok-ccf.ccf c.is_model.ensures c.in_ok-layered.ensures
    promise.shape promise.transform promise.pair_and_rank promise.block_triangular_form promise.ideals promise.canonical_listing in (
      kind,
      named,
      refl,
      record {
        gives = gives;
        are = c.in_ok-layered.ensures;
        whole = c.is_whole.ensures;
        ccf = c.in_ok-ccf.ccf;
        form = c.is_in_form.ensures;
        right = right;
        is = c.in_ok-plan.ensures c.args.model c.is_model.ensures c.in_ok-layered.ensures right;
      },
    )
