use Rattle.std.proofs.lemmas.Result.{IfOk-weaker}
use Rattle.ccf_builder.proofs.EachModel.{right-of-model}
use Rattle.example_report.proofs.told_of.Goals as goal

pub report-requires : goal.report-requires
report-requires c =
    let promise = c.in_ok-form.ensures in
    record {
      model = c.args.model.now;
      is = c.is_model.ensures;
      are = c.in_ok-layered.ensures;
      right = right-of-model 65521 c.args.model.now c.in_ok-layered.layered c.in_ok-form.form c.is_model.ensures c.in_ok-layered.ensures
          promise.shape promise.transform promise.pair_and_rank promise.block_triangular_form promise.ideals promise.canonical_listing;
    }

pub returns : goal.returns
returns c =
    let promise = c.in_ok-form.ensures in
    IfOk-weaker c.report.result _ _ (λ told reports. reports c.args.model.now c.is_model.ensures c.in_ok-layered.ensures
    (right-of-model 65521 c.args.model.now c.in_ok-layered.layered c.in_ok-form.form c.is_model.ensures c.in_ok-layered.ensures
    promise.shape promise.transform promise.pair_and_rank promise.block_triangular_form promise.ideals promise.canonical_listing)) c.report.ensures
