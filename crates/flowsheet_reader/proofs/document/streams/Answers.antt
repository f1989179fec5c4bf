use Rattle.std.proofs.Common.{◌+◌, map, drop, arith}
use Rattle.toml.specs.View.{view}
use Rattle.flowsheet_reader.specs.Models.{stream_in, streams_in}
use Rattle.document_values.proofs.NamesRead.{items-left, read-more, reads-fail, refused-here}
use Rattle.flowsheet_reader.proofs.document.streams.Goals as goal

pub returns-in_err-add_stream : goal.returns-in_err-add_stream
returns-in_err-add_stream c =
    let left = items-left c.args.items.now c.loop-place.place c.index-items-place.result c.loop-place-test.true c.index-items-place.is in
    reads-fail (λ names. names) c.from_residual.result
    (streams_in c.args.components.now (map view c.args.items.now)) c.in_err-add_stream.field-0.0 c.from_residual.ensures.1
    (refused-here (stream_in c.args.components.now)
    (streams_in c.args.components.now (map view c.args.items.now)) c.loop-place.names
    (map view (drop c.loop-place.place c.args.items.now))
    (map view (drop (c.loop-place.place + 1) c.args.items.now)) (view c.index-items-place.result)
    c.loop-place.invariant.read left c.loop-place.names c.add_stream.new.names c.add_stream.result
    c.in_err-add_stream.field-0.0 c.in_err-add_stream.was c.add_stream.ensures)

pub loop-place-preserved : goal.loop-place-preserved
loop-place-preserved c =
    let left = items-left c.args.items.now c.loop-place.place c.index-items-place.result c.loop-place-test.true c.index-items-place.is in
    let more = read-more (stream_in c.args.components.now)
    (streams_in c.args.components.now (map view c.args.items.now)) c.loop-place.names
    (map view (drop c.loop-place.place c.args.items.now))
    (map view (drop (c.loop-place.place + 1) c.args.items.now)) (view c.index-items-place.result)
    c.loop-place.invariant.read left c.add_stream.new.names c.add_stream.result c.in_ok-add_stream.was c.add_stream.ensures in
    record { read = more.0; count = omega (arith, more.1, c.loop-place.invariant.count) }
