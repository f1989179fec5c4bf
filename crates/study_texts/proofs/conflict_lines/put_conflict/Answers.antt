use Rattle.std.proofs.Common.{ap}
use Rattle.text_writer.proofs.Putting.{puts_is, puts_then}
use Rattle.study_texts.specs.ConflictTexts.{name_items}
use Rattle.study_texts.proofs.conflict_lines.put_conflict.Goals as goal

pub returns : goal.returns
returns g c = puts_then (puts_then (puts_then (puts_then c.piece.ensures c.put_equation_name.ensures) c.piece-2.ensures)
    (puts_is (ap (name_items c.args.model.now.equations) c.as_slice.ensures) c.put_names.ensures)) c.piece-3.ensures
