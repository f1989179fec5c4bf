use Rattle.std.proofs.Common.{ap, sym}
use Rattle.mixed_model.specs.declared.origin.Origin.TheVariants.{Unknown}
use Rattle.answer_texts.specs.LayerTexts.{column_name}
use Rattle.answer_texts.proofs.LayerFacts.{column_origin_within}
use Rattle.answer_texts.proofs.LayerPieces.{got_or}
use Rattle.text_writer.proofs.Putting.{puts_is, puts_then}
use Rattle.study_texts.proofs.solution_lines.put_column.Goals as goal

pub put_column_name-requires : goal.put_column_name-requires
put_column_name-requires g c =
    column_origin_within c.args.model.now c.args.layered.now c.args.column c.column_origin-origin.result
    c.requires.layers c.requires.column c.column_origin-origin.ensures

pub returns : goal.returns
returns g c = puts_then c.piece.ensures
    (puts_is (ap (column_name c.args.model.now) (sym (got_or c.args.layered.now.column_origins c.args.column
    (Unknown 0) c.column_origin-origin.result c.column_origin-origin.ensures))) c.put_column_name.ensures)
