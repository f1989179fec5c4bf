use Rattle.std.proofs.Common.{arith, ◌∙◌}
use Rattle.std.proofs.lemmas.List.{length-set}
use Rattle.row_table.proofs.PutOffLaws.{negated-next, written-other}
use Rattle.row_table.proofs.put_off.negate.Goals as goal

pub loop-i-preserved : goal.loop-i-preserved
loop-i-preserved g c = record {
  length = length-set c.loop-i.column c.loop-i.i c.neg.result ∙ c.loop-i.invariant.length;
  negative = negated-next g.F.Field.number g.F.Field.modulus c.args.column.now c.loop-i.column c.loop-i.i
      c.index-column-i.result c.neg.result
      (omega (arith, c.loop-i.invariant.length, c.loop-i-test.true)) c.index-column-i.is c.neg.ensures.negative
      (c.loop-i.invariant.rest c.loop-i.i (omega arith)) c.loop-i.invariant.negative;
  rest = λ k le. written-other g.F.Field.number c.loop-i.column c.loop-i.i k c.neg.result (omega arith)
      ∙ c.loop-i.invariant.rest k (omega arith);
}
