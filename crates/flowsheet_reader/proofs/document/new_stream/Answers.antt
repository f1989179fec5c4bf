use Rattle.std.proofs.Common.{arith}
use Rattle.toml.specs.View.{view}
use Rattle.flowsheet_reader.proofs.Rooms.{full-stream, roomy-stream}
use Rattle.flowsheet_reader.proofs.document.new_stream.Goals as goal

pub returns-then-len-number : goal.returns-then-len-number
returns-then-len-number c =
    full-stream c.args.components.now c.args.names.now c.in_ok-name.name.now c.args.number c.requires
    (view c.args.value.now) c.in_ok-name.ensures (omega (arith, c.if-len-number.true, c.len.ensures))

pub returns : goal.returns
returns c =
    roomy-stream c.args.components.now c.args.names.now c.in_ok-name.name.now c.args.number c.requires
    (view c.args.value.now) c.in_ok-name.ensures (omega (arith, c.if-len-number.false, c.len.ensures))
