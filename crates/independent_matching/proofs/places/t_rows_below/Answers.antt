use Rattle.std.proofs.Common.{length, slice_index, arith}
use Rattle.independent_matching.proofs.PlaceLaws.{item-told, told-size}
use Rattle.independent_matching.proofs.places.t_rows_below.Goals as goal

pub returns-else-t_origin-equation-clause-size : goal.returns-else-t_origin-equation-clause-size
returns-else-t_origin-equation-clause-size g c A n members en =
    let xs = c.args.new.now.t_origins in
    told-size A n (length xs) (slice_index xs) members c.args.equation c.loop-row.row en c.loop-row.invariant.within c.loop-row.invariant.below
    (λ l. omega (arith, c.if-t_origin-equation.false, item-told xs c.loop-row.row c.t_origin.result c.t_origin.ensures))

pub returns-after-loop-row-clause-size : goal.returns-after-loop-row-clause-size
returns-after-loop-row-clause-size g c A n members en =
    let xs = c.args.new.now.t_origins in
    told-size A n (length xs) (slice_index xs) members c.args.equation c.loop-row.row en c.loop-row.invariant.within c.loop-row.invariant.below
    (λ l. absurd (omega (arith, l, c.loop-row-test.false, c.t_rows.ensures, c.are_layers.ensures.t_origins)))
