use Rattle.model_studies.proofs.RightForms.{right-form-for}
use Rattle.model_studies.proofs.solving.solve_with_values.Goals as goal

pub solving_by-requires-clause-form : goal.solving_by-requires-clause-form
solving_by-requires-clause-form g c =
    let promise = c.in_ok-form.ensures in
    right-form-for g.F.Field.modulus c.args.model.now c.args.layered.now c.in_ok-form.form c.is_model.ensures c.requires.layers
    promise.shape promise.transform promise.pair_and_rank promise.block_triangular_form promise.ideals promise.canonical_listing
