use Rattle.std.proofs.Common.{inl, inr, sym, ◌∙◌, arith}
use Rattle.residue_theory.proofs.SetLaws.{lt_cases}
use Rattle.row_table.proofs.PutOffEdits.{past-column}
use Rattle.row_table.proofs.matrix_steps.copy_row.Goals as goal

pub returns-clause-here : goal.returns-clause-here
returns-clause-here g c j = elim (lt_cases j c.loop-j.j) [
  | inl l ↦ c.loop-j.invariant.here j l
  | inr le ↦ c.loop-j.invariant.rest j le ∙ sym (past-column c.args.m.now c.args.i j c.cols-j-end.ensures.matrix c.requires.row
      (omega (arith, c.cols-j-end.ensures.cols, c.loop-j-test.false, le)))
]
