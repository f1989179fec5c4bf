use Rattle.std.proofs.Common.{slice_index, subst, arith}
use Rattle.value_lists.specs.Fixing.{FixesAt}
use Rattle.value_lists.proofs.Rows.{fixes-begin, fixes-end, fixes-step}
use Rattle.value_lists.proofs.fixing.fix_ones.Goals as goal

pub loop-column-init : goal.loop-column-init
loop-column-init g c = fixes-begin g.F.Field.modulus c.args.model.now c.args.i c.args.columns.now

pub loop-column-preserved : goal.loop-column-preserved
loop-column-preserved g c = fixes-step g.F.Field.modulus c.args.model.now c.loop-column.model c.fix.new.model c.args.i c.args.columns.now
    c.loop-column.column-index 0 c.loop-column-test.true c.loop-column.invariant
    (subst (λ n. FixesAt g.F.Field.modulus c.loop-column.model c.fix.new.model c.args.i
    (slice_index c.args.columns.now c.loop-column.column-index) n) c.one.ensures c.in_ok-fix.ensures)

pub returns : goal.returns
returns g c = fixes-end g.F.Field.modulus c.args.model.now c.loop-column.model c.args.i c.args.columns.now c.loop-column.column-index
    (omega (arith, c.loop-column-test.false)) c.loop-column.invariant
