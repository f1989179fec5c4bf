use Rattle.std.proofs.Common.{[], map, length, refl, arith, ap, ◌∙◌, ◌++◌}
use Rattle.std.specs.String.{string_bytes}
use Rattle.mixed_model.specs.Models.{MixedModel}
use Rattle.flowsheet_reader.proofs.Reaching.{listed-few}
use Rattle.flowsheet_reader.proofs.Starting.{flows-part, start-model}
use Rattle.flowsheet_reader.proofs.sheet.Sheet.without_units.Goals as goal

pub add_flows-requires-clause-new : goal.add_flows-requires-clause-new
add_flows-requires-clause-new g c =
    flows-part g.F.Field.modulus c.args.version c.args.components c.args.streams c.requires c.in_ok-model.model
    (map string_bytes c.in_ok-flows.field-0.items) c.new-2.result.items
    c.in_ok-model.ensures.empty c.in_ok-flows.ensures c.new-2.ensures.items

pub add_flows-requires-clause-unknowns : goal.add_flows-requires-clause-unknowns
add_flows-requires-clause-unknowns g c =
    omega (
      arith,
      listed-few c.args.components c.args.streams c.requires,
      ap (λ (model : MixedModel). length (model.unknowns ++ map string_bytes c.in_ok-flows.field-0.items))
          c.in_ok-model.ensures.empty ∙ ap length c.in_ok-flows.ensures,
    )

pub returns : goal.returns
returns g c = record {
  version = refl;
  components = refl;
  streams = refl;
  units = c.new-3.ensures;
  model = start-model g.F.Field.modulus c.args.version c.args.components c.args.streams c.requires c.in_ok-model.model
      c.add_flows.new.model (map string_bytes c.in_ok-flows.field-0.items) c.new-2.result.items
      c.in_ok-model.ensures.empty c.in_ok-model.ensures.model c.in_ok-flows.ensures c.new-2.ensures.items c.in_ok-add_flows.ensures;
  reached = record { listed = c.requires; unit_items = []; units = refl };
}
