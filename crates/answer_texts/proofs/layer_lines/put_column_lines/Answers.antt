use Rattle.std.proofs.Common.{◌+◌, ◌<◌, ap, length, arith}
use Rattle.text_writer.proofs.Putting.{loop_goes_on, loop_begins, loop_ends}
use Rattle.answer_texts.specs.LayerTexts.{column_lines}
use Rattle.answer_texts.proofs.LayerFacts.{column_origin_within}
use Rattle.answer_texts.proofs.LayerPieces.{columns_left, columns_end}
use Rattle.mixed_model.specs.Layers.{Layers}
use Rattle.answer_texts.proofs.layer_lines.put_column_lines.Goals as goal

pub loop-column-init : goal.loop-column-init
loop-column-init g c = loop_begins (column_lines c.args.model.now 1 c.args.layered.now.column_origins)

pub put_column_line-requires : goal.put_column_line-requires
put_column_line-requires g c =
    let below : c.loop-column.column < c.args.layered.now.q.width =
    omega (arith, c.cols-column-end.ensures.cols, ap (λ (l : Layers). l.q.width) c.layered.view_is) in
    column_origin_within c.args.model.now c.args.layered.now c.loop-column.column c.column_origin-origin.result c.requires below c.column_origin-origin.ensures

pub loop-column-preserved : goal.loop-column-preserved
loop-column-preserved g c =
    let origins = c.args.layered.now.column_origins in
    let within : c.loop-column.column < length origins =
    omega (
      arith,
      c.cols-column-end.ensures.cols,
      c.layered.invariant.column_origins,
      ap
          (λ (l : Layers). length l.column_origins) c.layered.view_is,
    ) in
    loop_goes_on (columns_left c.args.model.now origins c.loop-column.column c.column_origin-origin.result within
    c.column_origin-origin.ensures) c.loop-column.invariant c.put_column_line.ensures

pub returns : goal.returns
returns g c =
    let origins = c.args.layered.now.column_origins in
    loop_ends {text = column_lines c.args.model.now 1 c.args.layered.now.column_origins}
    (columns_end c.args.model.now (c.loop-column.column + 1) origins c.loop-column.column
    (omega (
      arith,
      c.cols-column-end.ensures.cols,
      c.layered.invariant.column_origins,
      ap
          (λ (l : Layers). length l.column_origins) c.layered.view_is,
    ))) c.loop-column.invariant
