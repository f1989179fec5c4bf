-- What is left of the lines of a reply once a piece of it is put.
use Rattle.std.proofs.Common.{◌≡◌, ℕ, ◌+◌, ◌<◌, List, ◌++◌, length, get_or, drop, ap}
use Rattle.ccf_builder.specs.declared.canonical.Block.{Block}
use Rattle.mixed_model.specs.Layers.{Layers}
use Rattle.mixed_model.specs.Models.{MixedModel}
use Rattle.text_writer.specs.Numbers.{spaced}
use Rattle.text_writer.proofs.Putting.{drop_next}
use Rattle.desk_texts.specs.Texts.{reply_block_line, reply_block_lines, lower_blocks_text, name_text, names_text}

pub names_left : (model : MixedModel) (layers : Layers) (columns : List ℕ) (i d : ℕ) → i < length columns →
    names_text model layers (drop i columns) ≡ name_text model layers (get_or columns i d) ++ names_text model layers (drop (i + 1) columns)
names_left model layers columns i d within = ap (names_text model layers) (drop_next columns i d within)

pub blocks_left : (blocks : List ℕ) (i d : ℕ) → i < length blocks →
    lower_blocks_text (drop i blocks) ≡ spaced (get_or blocks i d + 1) ++ lower_blocks_text (drop (i + 1) blocks)
blocks_left blocks i d within = ap lower_blocks_text (drop_next blocks i d within)

pub lines_left : (model : MixedModel) (layers : Layers) (blocks : List Block) (i : ℕ) (d : Block) → i < length blocks →
    reply_block_lines model layers (i + 1) (drop i blocks)
    ≡ reply_block_line model layers (i + 1) (get_or blocks i d) ++ reply_block_lines model layers (i + 1 + 1) (drop (i + 1) blocks)
lines_left model layers blocks i d within = ap (reply_block_lines model layers (i + 1)) (drop_next blocks i d within)
