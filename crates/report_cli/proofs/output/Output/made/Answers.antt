use Rattle.std.proofs.Common.{refl, ◌∙◌}
use Rattle.mixed_layering.specs.Layers.{origins_of}
use Rattle.mixed_model.specs.Layers.{layered_matrix_of}
use Rattle.ccf_builder.proofs.EachModel.{right-of-model}
use Rattle.report_cli.proofs.output.Output.made.Goals as goal

pub returns : goal.returns
returns g c =
    let made = c.in_ok-model.ensures in
    let promise = c.in_ok-ccf.ensures in
    let are = c.in_ok-layered.ensures in (
      refl,
      record {
        size = c.requires.size;
        model = c.in_ok-model.model;
        made = made.made;
        is = made.model;
        layered = layered_matrix_of c.in_ok-layered.layered;
        origins = origins_of c.in_ok-layered.layered are.split;
        layers = are.layered;
        split_is = c.split-split.ensures.count ∙ are.count;
        form = c.is_in_form.ensures;
        right = right-of-model g.F.Field.modulus c.in_ok-model.model c.in_ok-layered.layered c.in_ok-ccf.ccf made.model are
            promise.shape promise.transform promise.pair_and_rank promise.block_triangular_form promise.ideals promise.canonical_listing;
      },
    )
