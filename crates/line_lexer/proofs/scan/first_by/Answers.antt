use Rattle.std.proofs.Common.{length, ◌-◌, arith}
use Rattle.line_lexer.proofs.LaneLaws.{found_next, found_last}
use Rattle.line_lexer.proofs.scan.first_by.Goals as goal

pub returns-in-Some : goal.returns-in-Some
returns-in-Some g c =
    let next = c.in-Some.ensures in
    found_next g.T.ByteTest.holds c.args.bytes.now c.loop-place.place c.loop-place.place (omega arith) c.loop-place.invariant.1
    c.in-Some.found (omega (arith, next.0)) next.1 next.2

pub returns : goal.returns
returns g c =
    found_last g.T.ByteTest.holds c.args.bytes.now c.loop-place.place (length c.args.bytes.now - g.row.N) (omega arith)
    c.loop-place.invariant.1 g.row.N c.first_marked-2.result (omega arith) c.first_marked-2.ensures
