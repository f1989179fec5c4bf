use Rattle.std.proofs.Common.{slice_index_or}
use Rattle.part_arcs.specs.Marking.{columns_of}
use Rattle.part_arcs.proofs.MarkLaws.{column-at, mark-more}
use Rattle.part_arcs.proofs.marking.mark_columns.Goals as goal

pub loop-pair-preserved : goal.loop-pair-preserved
loop-pair-preserved c = record {
  marked = mark-more (columns_of c.args.pairs.now) c.loop-pair.pair-index
      (slice_index_or c.args.pairs.now c.loop-pair.pair-index
      (0, 0)).1 c.args.marks.now c.loop-pair.marks c.loop-pair.invariant.marked
      (column-at c.args.pairs.now c.loop-pair.pair-index (0, 0) c.loop-pair-test.true) (c.requires c.loop-pair.pair-index (0, 0) c.loop-pair-test.true);
}
