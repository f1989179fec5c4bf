use Rattle.sparse_t.specs.Columns.{HasRoom, HasSameItems}
use Rattle.sparse_t.proofs.columns.Columns.make_room.Given as goal

abbrev pub invariant-loop-column : goal.invariant-loop-column
invariant-loop-column l = record {
  same : HasSameItems l.fn.self.lists.items l.self.lists.items;
  room : HasRoom l.self.lists.items l.columns l.column-index;
}
