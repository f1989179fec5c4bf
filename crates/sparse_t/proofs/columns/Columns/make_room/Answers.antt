use Rattle.std.proofs.Common.{◌<◌, get_or, length, refl, arith}
use Rattle.sparse_t.proofs.ColumnLaws.{same-step, room-step}
use Rattle.sparse_t.proofs.columns.Columns.make_room.Goals as goal

pub loop-column-preserved : goal.loop-column-preserved
loop-column-preserved c =
    let I = c.loop-column.invariant in
    let lists = c.loop-column.self.lists.items in
    let x = get_or c.args.columns.now c.loop-column.column-index 0 in
    let below : x < length lists = omega (arith, I.same.count, c.requires.below c.loop-column.column-index (omega arith)) in
    record {
      same = same-step lists x c.index_mut.result.now c.reserve.new.self below c.index_mut.ensures.value
          c.args.self.now.lists.items c.in_ok-reserve.ensures.items I.same;
      room = room-step lists x c.index_mut.result.now c.reserve.new.self below c.index_mut.ensures.value
          c.args.columns.now c.loop-column.column-index refl c.in_ok-reserve.ensures.ok I.room;
    }
