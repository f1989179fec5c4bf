use Rattle.std.proofs.Common.{◌<◌, get_or, length, refl, ◌∙◌, arith}
use Rattle.std.proofs.lemmas.List.{length-set}
use Rattle.sparse_t.proofs.ColumnLaws.{room-here, entered-step, others-step, capacities-step, entered-all}
use Rattle.sparse_t.proofs.columns.Columns.push.Goals as goal

pub push_reserved-requires : goal.push_reserved-requires
push_reserved-requires c =
    let I = c.loop-column.invariant in
    let lists = c.loop-column.self.lists.items in
    let x = get_or c.args.columns.now c.loop-column.column-index 0 in
    let below : x < length lists = omega (arith, I.count, c.requires.below c.loop-column.column-index (omega arith)) in (
      omega arith,
      room-here c.args.self.now.lists.items lists c.args.columns.now c.loop-column.column-index x
          c.index_mut.result.now below c.index_mut.ensures.value c.requires.rising (omega arith) refl c.requires.room
          I.others I.capacities,
    )

pub loop-column-preserved : goal.loop-column-preserved
loop-column-preserved c =
    let I = c.loop-column.invariant in
    let first = c.args.self.now.lists.items in
    let lists = c.loop-column.self.lists.items in
    let columns = c.args.columns.now in
    let k = c.loop-column.column-index in
    let x = get_or columns k 0 in
    let v = c.index_mut.result.now in
    let w = c.push_reserved.new.self in
    let here : k < length columns = omega arith in
    let below : x < length lists = omega (arith, I.count, c.requires.below k here) in
    let read = c.index_mut.ensures.value in
    record {
      count = length-set lists x w ∙ I.count;
      entered = entered-step lists x v w below read first columns c.args.row k c.requires.rising here refl c.push_reserved.ensures.items I.others I.entered;
      others = others-step lists x v w below read first columns c.args.row k c.requires.rising here refl c.push_reserved.ensures.items I.others;
      capacities = capacities-step lists x v w below read first c.push_reserved.ensures.capacity I.capacities;
    }

pub returns : goal.returns
returns c =
    let I = c.loop-column.invariant in
    entered-all c.args.self.now.lists.items c.loop-column.self.lists.items c.args.columns.now c.args.row
    c.loop-column.column-index I.count (omega arith) (omega arith) I.entered I.others
