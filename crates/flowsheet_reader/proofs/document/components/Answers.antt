use Rattle.std.proofs.Common.{◌+◌, map, drop, arith}
use Rattle.toml.specs.View.{view}
use Rattle.flowsheet_reader.specs.Models.{component_in, components_in}
use Rattle.document_values.proofs.NamesRead.{items-left, read-more, reads-fail, refused-here}
use Rattle.flowsheet_reader.proofs.document.components.Goals as goal

pub returns-in_err-add_component : goal.returns-in_err-add_component
returns-in_err-add_component c =
    let left = items-left c.args.items.now c.loop-place.place c.index-items-place.result c.loop-place-test.true c.index-items-place.is in
    reads-fail (λ names. names) c.from_residual.result (components_in (map view c.args.items.now)) c.in_err-add_component.field-0.0 c.from_residual.ensures.1
    (refused-here component_in (components_in (map view c.args.items.now)) c.loop-place.names
    (map view (drop c.loop-place.place c.args.items.now))
    (map view (drop (c.loop-place.place + 1) c.args.items.now)) (view c.index-items-place.result)
    c.loop-place.invariant.read left c.loop-place.names c.add_component.new.names c.add_component.result
    c.in_err-add_component.field-0.0 c.in_err-add_component.was c.add_component.ensures)

pub loop-place-preserved : goal.loop-place-preserved
loop-place-preserved c =
    let left = items-left c.args.items.now c.loop-place.place c.index-items-place.result c.loop-place-test.true c.index-items-place.is in
    let more = read-more component_in (components_in (map view c.args.items.now)) c.loop-place.names
    (map view (drop c.loop-place.place c.args.items.now))
    (map view (drop (c.loop-place.place + 1) c.args.items.now)) (view c.index-items-place.result)
    c.loop-place.invariant.read left c.add_component.new.names c.add_component.result c.in_ok-add_component.was c.add_component.ensures in
    record { read = more.0; count = omega (arith, more.1, c.loop-place.invariant.count) }
