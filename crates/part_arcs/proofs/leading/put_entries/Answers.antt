use Rattle.std.proofs.Common.{map, refl, subst, sym, ◌∙◌}
use Rattle.cert_text.specs.Readings.{pair_at}
use Rattle.part_arcs.specs.Leading.{AreLedTo}
use Rattle.part_arcs.specs.Marking.{first_numbers}
use Rattle.part_arcs.proofs.ArcLists.{rows-more}
use Rattle.part_arcs.proofs.MarkLaws.{keys-count, keys-row}
use Rattle.part_arcs.proofs.leading.put_entries.Goals as goal

pub loop-pair-preserved : goal.loop-pair-preserved
loop-pair-preserved g c = record {
  led = rows-more (map first_numbers c.args.rows.now) c.args.pairs.now c.loop-pair.pair-index c.args.arcs.now.items
      c.loop-pair.arcs.items c.put_keys.new.arcs.items (first_numbers c.as_slice.result.now)
      (pair_at c.args.pairs.now c.loop-pair.pair-index).1
      c.loop-pair.invariant.led (keys-row c.args.rows.now
      (pair_at c.args.pairs.now c.loop-pair.pair-index).0 c.as_slice.result.now c.index-rows-pair.result
      (c.requires c.loop-pair.pair-index (0, 0) c.loop-pair-test.true) (c.as_slice.ensures
      ∙ c.index-rows-pair.is)) refl
      (subst (λ m. AreLedTo (first_numbers c.as_slice.result.now)
      (pair_at c.args.pairs.now c.loop-pair.pair-index).1 m c.loop-pair.arcs.items c.put_keys.new.arcs.items)
      (sym (keys-count c.as_slice.result.now)) c.in_ok-put_keys.ensures);
}
