use Rattle.std.proofs.Common.{drop}
use Rattle.text_writer.specs.Texts.{PutsUpTo}
use Rattle.study_texts.specs.ConflictTexts.{conflict_lines}
use Rattle.study_texts.proofs.conflict_lines.put_conflict_lines.Given as goal

abbrev pub invariant-loop-conflict : goal.invariant-loop-conflict
invariant-loop-conflict g l = PutsUpTo g.K.Sink l.initial.out l.out (conflict_lines l.model.equations l.conflicts)
    (conflict_lines l.model.equations (drop l.conflict-index l.conflicts))
