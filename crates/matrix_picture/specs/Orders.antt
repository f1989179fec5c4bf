-- The order in which a picture shows the columns and rows of a form, and where its parts stand.
use Rattle.std.specs.Prelude.{ℕ, List, [], ◌∷◌, ◌++◌, length, map}
use Rattle.cert_text.specs.Contents.{Contents}
use Rattle.cert_text.specs.declared.part.CcfPart.{CcfPart}
use Rattle.cert_text.specs.declared.part.CcfBlock.{CcfBlock}
use Rattle.matrix_picture.specs.declared.layout.Frame.{Frame}
use Rattle.matrix_picture.specs.declared.layout.Row.{Row}
use Rattle.matrix_picture.specs.declared.layout.Row.TheVariants.{Constants, Symbols}

-- the columns from the left, the rows from the top, and the frames of the parts
pub record Order : Type 0 where
  pub columns : List ℕ
  pub rows : List Row
  pub frames : List Frame

abbrev pub nothing_placed : Order
nothing_placed = record { columns = []; rows = []; frames = [] }

-- the columns of a part put right of those that are there, and its rows below
abbrev pub with_lines : Order → CcfPart → Order
with_lines order part = record {
  columns = order.columns ++ part.columns;
  rows = order.rows ++ map Constants part.q_rows ++ map Symbols part.t_rows;
  frames = order.frames;
}

-- the frame of what was put
abbrev pub frame_between : Order → Order → Frame
frame_between before after = record {
  left = length before.columns;
  top = length before.rows;
  right = length after.columns;
  bottom = length after.rows;
}

-- a part put right of and below those that are there, with its frame
abbrev pub with_part : Order → CcfPart → Order
with_part order part = record {
  columns = (with_lines order part).columns;
  rows = (with_lines order part).rows;
  frames = order.frames ++ frame_between order (with_lines order part) ∷ [];
}

abbrev pub with_blocks : Order → List CcfBlock → Order
with_blocks order [] = order
with_blocks order (block ∷ blocks) = with_blocks (with_part order block.part) blocks

-- the first tail, the blocks, the last tail
abbrev pub order_of : Contents → Order
order_of c = with_part (with_blocks (with_part nothing_placed c.first) c.blocks) c.last
