use Rattle.std.proofs.Common.{arith, ◌∙◌}
use Rattle.std.proofs.lemmas.List.{length-set}
use Rattle.row_table.specs.PutOffs.{actual}
use Rattle.row_table.proofs.PutOffLaws.{column-next}
use Rattle.row_table.proofs.put_off.PutOff.column.Goals as goal

pub loop-i-preserved : goal.loop-i-preserved
loop-i-preserved g c = record {
  length = length-set c.loop-i.column c.loop-i.i c.entry.result ∙ c.loop-i.invariant.length;
  entries = column-next g.F.Field.number c.loop-i.column c.loop-i.i c.entry.result
      (λ k. actual g.F.Field.modulus c.args.self.now k c.args.j)
      (omega (arith, c.loop-i.invariant.length, c.requires.length, c.rows-i-end.ensures.rows, c.loop-i-test.true))
      c.loop-i.invariant.entries c.entry.ensures;
}
