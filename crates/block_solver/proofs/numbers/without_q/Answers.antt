use Rattle.std.proofs.Common.{◌≡◌, ◌<◌, arith, length, map, slice_index, subst}
use Rattle.std.proofs.lemmas.List.{length-map}
use Rattle.std.proofs.lemmas.Option.{get_or_from_slice_get, slice_get_within}
use Rattle.dense_q.specs.Tables.{height}
use Rattle.block_solver.specs.Numbers.{LacksOrigins}
use Rattle.block_solver.proofs.SymbolNumbers.{lacks-next}
use Rattle.block_solver.proofs.numbers.without_q.Goals as goal

pub loop-row-preserved : goal.loop-row-preserved
loop-row-preserved g c =
    let number = g.F.Field.number in
    let origins = c.args.layered.now.q_origins in
    let right = c.args.right.now in
    let row = c.loop-row.row in
    let rest = c.loop-row.rest.items in
    let e = c.q_origin.result in
    let at : slice_index origins row ≡ e = get_or_from_slice_get origins row e 0 c.q_origin.ensures in
    let low : e < length right = subst (λ i. i < length right) at (c.requires row 0 (slice_get_within origins row e c.q_origin.ensures)) in
    lacks-next number row origins (map number right) rest e c.zero.result c.loop-row.invariant at
    (omega (arith, low, c.loop-row.invariant.count, length-map rest number, length-map right number)) c.zero.ensures

pub returns : goal.returns
returns g c =
    let number = g.F.Field.number in
    let layers = c.args.layered.now in
    let end : c.loop-row.row ≡ height layers.q = omega (arith, c.loop-row-test.false, c.loop-row.auto.row-end, c.q_rows-row-end.ensures) in
    subst (λ n. LacksOrigins n layers.q_origins (map number c.args.right.now) (map number c.loop-row.rest.items)) end c.loop-row.invariant
