use Rattle.mixed_model.specs.Layers.{layered_matrix_of}
use Rattle.mixed_model.specs.Models.{mixed_matrix_of}
use Rattle.mixed_layering.specs.Layers.{origins_of}
use Rattle.mixed_form_laws.proofs.Finest.{canonical-finest}
use Rattle.cert_checker.proofs.OneVerdict.{right-for}
use Rattle.cert_text.specs.Readings.{parts_of}
use Rattle.ccf_builder.proofs.building.build.Goals as goal

pub returns : goal.returns
returns g c =
    let of = c.args.l.now in
    let form = c.in_ok-form.form in
    let right = c.in_ok-form.ensures in
    let of_some = right c.requires.model c.requires.is c.requires.are in
    record {
      shape = λ model is are. (right model is are).shape;
      transform = of_some.transform;
      pair_and_rank = λ model is are. (right model is are).pair_and_rank;
      block_triangular_form = of_some.block_triangular_form;
      ideals = of_some.ideals;
      canonical_listing = of_some.canonical_listing;
      finest = canonical-finest g.F.Field.modulus g.met.F.Field.prime (layered_matrix_of of) (parts_of form) of_some.canonical_listing.parts;
      accepted = λ model is are. right-for g.F.Field.modulus g.met.F.Field.prime g.met.F.Field.odd (mixed_matrix_of model) form c.is_in_form.ensures
          (layered_matrix_of of) (origins_of of are.split) are.layered (right model is are);
    }
