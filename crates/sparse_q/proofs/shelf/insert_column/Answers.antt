use Rattle.std.proofs.Common.{◌≡◌, ◌<◌, length, sym, subst, arith}
use Rattle.sparse_q.specs.Rows.{Row, row_raised}
use Rattle.sparse_q.proofs.ShelfLaws.{changed-none, changed-next, changed-all, changed-map}
use Rattle.sparse_q.proofs.shelf.insert_column.Goals as goal

pub loop-row-init : goal.loop-row-init
loop-row-init g c = changed-none (λ r s. s ≡ row_raised c.args.at r) c.args.rows.now

pub insert_column-requires-clause-room : goal.insert_column-requires-clause-room
insert_column-requires-clause-room g c =
    let I = c.loop-row.invariant in
    let r = c.row-item.result in
    let low : c.loop-row.row-index < length c.args.rows.now = omega (arith, I.count) in
    subst (λ (r : Row). r.width < r.room) (sym (I.rest c.loop-row.row-index r (omega arith)))
    (c.requires.room c.loop-row.row-index r low)

pub insert_column-requires-clause-few : goal.insert_column-requires-clause-few
insert_column-requires-clause-few g c =
    let I = c.loop-row.invariant in
    let r = c.row-item.result in
    let low : c.loop-row.row-index < length c.args.rows.now = omega (arith, I.count) in
    subst (λ (r : Row). r.width < 8192) (sym (I.rest c.loop-row.row-index r (omega arith)))
    (c.requires.few c.loop-row.row-index r low)

pub loop-row-preserved : goal.loop-row-preserved
loop-row-preserved g c =
    changed-next (λ r s. s ≡ row_raised c.args.at r) c.args.rows.now c.loop-row.rows c.loop-row.row-index c.row-item.result
    c.insert_column.new.self c.loop-row.invariant (omega arith) c.insert_column.ensures

pub returns : goal.returns
returns g c =
    changed-map (row_raised c.args.at) c.args.rows.now c.loop-row.rows
    (changed-all (λ r s. s ≡ row_raised c.args.at r) c.args.rows.now c.loop-row.rows c.loop-row.row-index c.loop-row.invariant
    (omega (arith, c.loop-row-test.false, c.loop-row.invariant.count)))
