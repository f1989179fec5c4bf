use Rattle.std.proofs.Common.{replicate, inl, inr, sym, ap, ◌∙◌, arith}
use Rattle.residue_theory.proofs.SetLaws.{lt_cases}
use Rattle.std.proofs.lemmas.List.{length-replicate}
use Rattle.dense_q.specs.Tables.{Table, entry, height}
use Rattle.row_table.proofs.PutOffEdits.{past-row, zero-entry}
use Rattle.row_table.proofs.matrix_steps.larger.Goals as goal

pub loop-i-init : goal.loop-i-init
loop-i-init g c = record {
  rows = ap height c.in_ok-larger.ensures ∙ length-replicate c.args.rows (replicate c.args.columns 0);
  columns = ap (λ (m : Table). m.width) c.in_ok-larger.ensures;
  same = λ k w l. absurd (omega arith);
  rest = λ k w le. ap (λ (m : Table). entry m k w) c.in_ok-larger.ensures ∙ zero-entry c.args.rows c.args.columns k w;
}

pub returns : goal.returns
returns g c = record {
  rows_are = c.loop-i.invariant.rows;
  columns_are = c.loop-i.invariant.columns;
  same = λ k w. elim (lt_cases k c.loop-i.i) [
    | inl l ↦ c.loop-i.invariant.same k w l
    | inr le ↦ c.loop-i.invariant.rest k w le ∙ sym (past-row c.args.m.now k w (omega (arith, c.rows-i-end.ensures.rows, c.loop-i-test.false, le)))
  ];
}
