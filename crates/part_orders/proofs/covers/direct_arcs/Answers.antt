use Rattle.std.proofs.Common.{length, slice_index, refl, arith}
use Rattle.bit_table.specs.Bits.{bit_in}
use Rattle.part_orders.proofs.CoverLaws.{put_more, all_put}
use Rattle.part_orders.proofs.covers.direct_arcs.Goals as goal

pub loop-i-preserved : goal.loop-i-preserved
loop-i-preserved c =
    record {
      rows = c.put_arc.ensures.rows;
      size = c.put_arc.ensures.size;
      put = put_more c.args.arcs.now (slice_index c.args.parts.now) c.args.blocks (bit_in c.loop-i.table)
          (bit_in c.put_arc.new.table) c.loop-i.i _ _ refl refl c.put_arc.ensures.put c.loop-i.invariant.put;
    }

pub returns-clause-direct : goal.returns-clause-direct
returns-clause-direct c =
    all_put c.args.arcs.now (slice_index c.args.parts.now) (length c.args.parts.now) c.args.blocks
    (bit_in c.loop-i.table) c.loop-i.i c.requires (omega (arith, c.loop-i-test.false, c.loop-i.auto.i-end))
    c.loop-i.invariant.put
