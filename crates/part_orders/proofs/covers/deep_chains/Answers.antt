use Rattle.std.proofs.Common.{refl, arith}
use Rattle.bit_table.specs.Bits.{bit_in}
use Rattle.part_orders.proofs.ItemLaws.{left, right}
use Rattle.part_orders.proofs.CoverLaws.{deep_more, all_deep}
use Rattle.part_orders.proofs.covers.deep_chains.Goals as goal

pub loop-i-preserved : goal.loop-i-preserved
loop-i-preserved c =
    let I = c.loop-i.invariant in
    record {
      rows = omega (arith, I.rows, c.join_other.ensures.rows);
      size = omega (arith, I.size, c.join_other.ensures.size);
      joined = deep_more c.args.lower.now c.args.blocks (bit_in c.args.below.now) (bit_in c.loop-i.table)
          (bit_in c.join_other.new.self) c.loop-i.table.size c.loop-i.i (left c.args.lower.now c.loop-i.i)
          (right c.args.lower.now c.loop-i.i)
          I.size refl refl c.join_other.ensures.joined I.joined;
    }

pub returns-clause-deep : goal.returns-clause-deep
returns-clause-deep c = all_deep c.args.lower.now c.args.blocks (bit_in c.args.below.now) (bit_in c.loop-i.table)
    c.loop-i.i (omega (arith, c.loop-i-test.false, c.loop-i.auto.i-end)) c.loop-i.invariant.joined
