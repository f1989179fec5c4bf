use Rattle.std.proofs.Common.{◌<◌, length, subst, sym}
use Rattle.part_arcs.specs.Marking.{first_numbers}
use Rattle.part_arcs.proofs.MarkLaws.{key-given, mark-more}
use Rattle.part_arcs.proofs.marking.mark_keys.Goals as goal

pub loop-item-preserved : goal.loop-item-preserved
loop-item-preserved g c = record {
  marked = mark-more (first_numbers c.args.items.now) c.loop-item.item-index c.item-item.result.0 c.args.marks.now c.loop-item.marks
      c.loop-item.invariant.marked
      (key-given c.args.items.now c.loop-item.item-index c.item-item.result c.loop-item-test.true c.item-item.is)
      (subst (λ item. item.0 < length c.args.marks.now) (sym c.item-item.is)
      (c.requires c.loop-item.item-index c.item-item.result c.loop-item-test.true));
}
