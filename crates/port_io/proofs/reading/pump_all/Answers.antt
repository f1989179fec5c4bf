use Rattle.std.proofs.Common.{◌≡◌, ◌+◌, ◌-◌, ◌≤◌, Err, length, subst, arith}
use Rattle.std.proofs.lemmas.Grind.{common_steps}
use Rattle.port_io.specs.Bytes.{TookExactly}
use Rattle.port_io.specs.declared.reading.ReadError.TheVariants.{TooLong}
use Rattle.port_io.proofs.Chains.{took_exactly, took_at_most}
use Rattle.port_io.proofs.reading.pump_all.Goals as goal

pub returns-in_err-next-clause-too_long : goal.returns-in_err-next-clause-too_long
returns-in_err-next-clause-too_long g c = λ e.
    let left = g.S.Source.left in
    let inv = c.loop-bytes.invariant in
    let so_far = length c.loop-bytes.bytes.items in
    let long : c.next.result ≡ Err TooLong = grind (arith, common_steps, c.from_residual.ensures, c.in_err-next.was) in
    let all : so_far + (c.next.new.self.taken - c.loop-bytes.pump.taken) ≡ c.args.limit + 1 =
    omega (arith, inv.limit, inv.taken, inv.room, c.next.ensures.too_long.0 long) in
    subst
    (λ n. TookExactly n (left c.args.source.now) (left c.next.new.source))
    all
    (took_exactly (left c.args.source.now) (left c.loop-bytes.source) (left c.next.new.source) c.loop-bytes.bytes.items
    (c.next.new.self.taken - c.loop-bytes.pump.taken) inv.so_far (c.next.ensures.too_many long))

pub returns-then-is_err-clause-memory_taken : goal.returns-then-is_err-clause-memory_taken
returns-then-is_err-clause-memory_taken g c = λ e.
    let left = g.S.Source.left in
    let inv = c.loop-bytes.invariant in
    let few : length c.loop-bytes.bytes.items + length c.next.new.self.piece ≤ c.args.limit =
    omega (arith, inv.limit, inv.taken, c.in_ok-next.ensures.piece, c.in_ok-next.ensures.counted, c.in_ok-next.ensures.within) in
    took_at_most (left c.args.source.now) (left c.loop-bytes.source) (left c.next.new.source) c.loop-bytes.bytes.items
    c.next.new.self.piece c.args.limit inv.so_far c.in_ok-next.ensures.taken few
