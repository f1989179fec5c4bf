use Rattle.std.proofs.Common.{drop, ◌+◌, ◌-◌, ◌≤◌}
use Rattle.text_writer.specs.Texts.{PutsUpTo}
use Rattle.dense_q.specs.Tables.{row_at}
use Rattle.answer_texts.specs.LayerTexts.{row_entries_text}
use Rattle.answer_texts.proofs.layer_lines.put_entries.Given as goal

abbrev pub invariant-loop-entry : goal.invariant-loop-entry
invariant-loop-entry g l = record {
  within : l.from ≤ l.matrix.width;
  put :
      let row = row_at l.matrix l.row in
      PutsUpTo g.K.Sink l.initial.out l.out (row_entries_text 1 row) (row_entries_text (l.from + 1) (drop l.from row));
}

abbrev pub decreases-loop-entry : goal.decreases-loop-entry
decreases-loop-entry g l = l.matrix.width - l.from
