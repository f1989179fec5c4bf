use Rattle.std.proofs.Common.{refl, ◌∙◌}
use Rattle.cert_text.specs.Readings.{pair_at}
use Rattle.part_arcs.proofs.MarkLaws.{row-given}
use Rattle.part_arcs.proofs.ArcLists.{rows-more}
use Rattle.part_arcs.proofs.leading.put_symbols.Goals as goal

pub loop-pair-preserved : goal.loop-pair-preserved
loop-pair-preserved c = record {
  led = rows-more c.args.rows.now c.args.pairs.now c.loop-pair.pair-index c.args.arcs.now.items c.loop-pair.arcs.items
      c.put_numbers.new.arcs.items c.as_slice.result.now (pair_at c.args.pairs.now c.loop-pair.pair-index).1
      c.loop-pair.invariant.led (row-given c.args.rows.now
      (pair_at c.args.pairs.now c.loop-pair.pair-index).0 c.as_slice.result.now c.index-rows-pair.result
      (c.requires c.loop-pair.pair-index (0, 0) c.loop-pair-test.true) (c.as_slice.ensures
      ∙ c.index-rows-pair.is)) refl c.in_ok-put_numbers.ensures;
}
