use Rattle.std.proofs.Common.{drop}
use Rattle.text_writer.specs.Texts.{PutsUpTo}
use Rattle.study_texts.specs.ConflictTexts.{name_items}
use Rattle.study_texts.proofs.conflict_lines.put_names.Given as goal

abbrev pub invariant-loop-equation : goal.invariant-loop-equation
invariant-loop-equation g l = PutsUpTo g.K.Sink l.initial.out l.out (name_items l.model.equations l.equations)
    (name_items l.model.equations (drop l.equation-index l.equations))
