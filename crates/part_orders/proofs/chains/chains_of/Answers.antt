use Rattle.std.proofs.Common.{refl, subst, arith}
use Rattle.bit_table.specs.Bits.{bit_in, IsBitSet}
use Rattle.part_orders.proofs.ItemLaws.{left, right}
use Rattle.part_orders.proofs.ChainLaws.{join_item, all_joined}
use Rattle.part_orders.proofs.chains.chains_of.Goals as goal

pub loop-i-preserved : goal.loop-i-preserved
loop-i-preserved c =
    let I = c.loop-i.invariant in
    record {
      rows = omega (arith, I.rows, c.join.ensures.rows, c.set.ensures.rows);
      size = omega (arith, I.size, c.join.ensures.size, c.set.ensures.size);
      joined = join_item c.args.blocks c.args.lower.now (bit_in c.loop-i.table) (bit_in c.join.new.self)
          (bit_in c.set.new.self) c.loop-i.table.size c.loop-i.i (left c.args.lower.now c.loop-i.i)
          (right c.args.lower.now c.loop-i.i)
          c.requires c.loop-i-test.true I.size refl refl c.join.ensures.joined
          (subst (λ n. IsBitSet (bit_in c.join.new.self) (bit_in c.set.new.self) n (left c.args.lower.now c.loop-i.i)
          (right c.args.lower.now c.loop-i.i)) c.join.ensures.size c.set.ensures.set) I.joined;
    }

pub returns-clause-chains : goal.returns-clause-chains
returns-clause-chains c = all_joined c.args.blocks c.args.lower.now (bit_in c.loop-i.table) c.loop-i.i
    (omega (arith, c.loop-i-test.false, c.loop-i.auto.i-end)) c.loop-i.invariant.joined
