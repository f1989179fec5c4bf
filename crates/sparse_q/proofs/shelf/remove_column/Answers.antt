use Rattle.std.proofs.Common.{◌<◌, length, sym, subst, arith}
use Rattle.sparse_q.specs.Rows.{Row, IsRowCut}
use Rattle.sparse_q.proofs.ShelfLaws.{changed-none, changed-next, changed-all}
use Rattle.sparse_q.proofs.shelf.remove_column.Goals as goal

pub loop-row-init : goal.loop-row-init
loop-row-init g c = changed-none (IsRowCut c.args.at) c.args.rows.now

pub remove_column-requires : goal.remove_column-requires
remove_column-requires g c =
    let I = c.loop-row.invariant in
    let r = c.row-item.result in
    let low : c.loop-row.row-index < length c.args.rows.now = omega (arith, I.count) in
    subst (λ (r : Row). c.args.at < r.width) (sym (I.rest c.loop-row.row-index r (omega arith)))
    (c.requires c.loop-row.row-index r low)

pub loop-row-preserved : goal.loop-row-preserved
loop-row-preserved g c =
    changed-next (IsRowCut c.args.at) c.args.rows.now c.loop-row.rows c.loop-row.row-index c.row-item.result
    c.remove_column.new.self c.loop-row.invariant (omega arith)
    (record {
      width_less = c.remove_column.ensures.width;
      room_same = c.remove_column.ensures.room;
      numbers = c.remove_column.ensures.numbers;
    })

pub returns : goal.returns
returns g c =
    changed-all (IsRowCut c.args.at) c.args.rows.now c.loop-row.rows c.loop-row.row-index c.loop-row.invariant
    (omega (arith, c.loop-row-test.false, c.loop-row.invariant.count))
