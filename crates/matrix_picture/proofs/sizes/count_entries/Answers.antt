use Rattle.std.proofs.Common.{◌+◌, length, ap, ◌∙◌}
use Rattle.port_io.specs.Causes.{shown}
use Rattle.matrix_picture.proofs.Listing.{counted_all, counted_next, counted_none}
use Rattle.matrix_picture.proofs.sizes.count_entries.Goals as goal

pub loop-row-init : goal.loop-row-init
loop-row-init g c = counted_none c.args.before c.args.rows.now c.ranges.before.fits

pub loop-row-preserved : goal.loop-row-preserved
loop-row-preserved g c =
    c.saturating_add-count.ensures ∙ ap (λ xs. shown (c.loop-row.count + length xs)) c.as_slice.ensures
    ∙ counted_next c.args.before c.loop-row.count c.args.rows.now c.loop-row.row-index c.row-item.result c.loop-row-test.true c.row-item.is c.loop-row.invariant

pub returns : goal.returns
returns g c = counted_all c.args.before c.loop-row.count c.args.rows.now c.loop-row.row-index c.loop-row-test.false c.loop-row.invariant
