-- The text of a picture, by its pieces. A unit is the side of a cell; columns and rows are counted from 0.
use Rattle.std.specs.Prelude.{ℕ, ◌+◌, ◌*◌, ◌-◌, ◌/◌, ◌==◌, ◌&&◌, ◌||◌, Bool, List, [], ◌∷◌, ◌++◌, codes, if◌then◌else◌, leb, length, slice_index_or}
use Rattle.std.specs.List.{list_any, sum_by}
use Rattle.text_writer.specs.Numbers.{with_mark, spaced}
use Rattle.cert_text.specs.Contents.{Contents}
use Rattle.cert_text.specs.declared.part.CcfPart.{CcfPart}
use Rattle.port_io.specs.Causes.{shown}
use Rattle.mixed_model.specs.Layers.{Layers}
use Rattle.mixed_model.specs.Models.{MixedModel}
use Rattle.matrix_picture.specs.Names.{name_of_column, name_of_row}
use Rattle.matrix_picture.specs.Orders.{Order}
use Rattle.matrix_picture.specs.declared.layout.Frame.{Frame}
use Rattle.matrix_picture.specs.declared.layout.Row.{Row}
use Rattle.matrix_picture.specs.declared.layout.Row.TheVariants.{Constants, Symbols}

-- a place, as two attributes
abbrev pub place_attributes : ℕ → ℕ → List ℕ
place_attributes left top = codes " x=" ++ with_mark 34 left ++ codes "\" y=" ++ with_mark 34 top ++ codes "\""

-- the columns and the rows that a part has
abbrev pub frame_columns : Frame → ℕ
frame_columns frame = frame.right - frame.left

abbrev pub frame_rows : Frame → ℕ
frame_rows frame = frame.bottom - frame.top

-- the unknowns of the first part are open, and the equations of the last are too many
abbrev pub first_name : Frame → List ℕ
first_name frame = if leb 1 (frame_columns frame) then codes ">first: open" else codes ">first"

abbrev pub last_name : Frame → List ℕ
last_name frame = if leb 1 (frame_rows frame) then codes ">last: too many" else codes ">last"

-- what part k of so many is called: the first and the last are the tails, and block k stands at place k
abbrev pub part_name : ℕ → ℕ → Frame → List ℕ
part_name count k frame =
    if k == 0 then first_name frame else if k + 1 == count then last_name frame else with_mark 62 k

-- how the frame of part k begins: the tails have colours of their own
abbrev pub box_head : ℕ → ℕ → List ℕ
box_head count k =
    if k == 0 then codes "<path class=\"o\" d=\""
    else if k + 1 == count then codes "<path class=\"m\" d=\"" else codes "<path d=\""

-- around the columns and the rows of a part
abbrev pub outline_of : Frame → List ℕ
outline_of frame =
    with_mark 77 frame.left ++ spaced frame.top ++ with_mark 72 frame.right ++ with_mark 86 frame.bottom
    ++ with_mark 72 frame.left

-- what a viewer tells of a part: its name and its size
abbrev pub title_text : ℕ → ℕ → Frame → List ℕ
title_text count k frame =
    codes "<title" ++ part_name count k frame ++ codes ", rows" ++ spaced (frame_rows frame)
    ++ codes ", columns" ++ spaced (frame_columns frame) ++ codes "</title>"

-- the frame of part k of so many
abbrev pub box_text : ℕ → ℕ → Frame → List ℕ
box_text count k frame =
    box_head count k ++ outline_of frame ++ codes "z\">" ++ title_text count k frame ++ codes "</path>\n"

-- the name of a part, left of its frame and at its foot
abbrev pub label_text : ℕ → ℕ → Frame → List ℕ
label_text count k frame =
    codes "<text class=\"p\"" ++ place_attributes frame.left frame.bottom
    ++ codes " dx=\"-.3em\" dy=\"-.2em\"" ++ part_name count k frame ++ codes "</text>\n"

-- the part has at least so many columns, or rows
abbrev pub is_legible : ℕ → Frame → Bool
is_legible least frame = leb least (frame_columns frame) || leb least (frame_rows frame)

-- a frame, with its name where it is not too small
abbrev pub frame_text : ℕ → ℕ → ℕ → Frame → List ℕ
frame_text least count k frame =
    box_text count k frame ++ (if is_legible least frame then label_text count k frame else [])

-- the frames of parts from part k of so many on
abbrev pub frames_text : ℕ → ℕ → ℕ → List Frame → List ℕ
frames_text least count k [] = []
frames_text least count k (frame ∷ frames) = frame_text least count k frame ++ frames_text least count (k + 1) frames

-- the row has an entry that is not 0 in the column
abbrev pub has_printed_entry : Contents → Row → ℕ → Bool
has_printed_entry c (Constants row) column = list_any (λ entry. entry.0 == column) (slice_index_or c.p row [])
has_printed_entry c (Symbols row) column = list_any (λ other. other == column) (slice_index_or c.t row [])

-- how its entries begin: squares for constants, discs for symbols
abbrev pub row_head : Row → List ℕ
row_head (Constants row) = codes "<path class=\"c\" d=\""
row_head (Symbols row) = codes "<path class=\"s\" d=\""

-- a dot in the middle of a cell: a stroke of no length
abbrev pub dot_text : ℕ → ℕ → List ℕ
dot_text left top = with_mark 77 left ++ codes ".5" ++ spaced top ++ codes ".5h0"

-- the place of a row and a column: nothing where there is no entry
abbrev pub entry_text : Contents → Row → ℕ → ℕ → ℕ → List ℕ
entry_text c row top left column = if has_printed_entry c row column then dot_text left top else []

-- the entries of a row at the columns from place `left` on
abbrev pub dots_text : Contents → Row → ℕ → ℕ → List ℕ → List ℕ
dots_text c row top left [] = []
dots_text c row top left (column ∷ columns) =
    entry_text c row top left column ++ dots_text c row top (left + 1) columns

-- a row, of which a viewer tells this name
abbrev pub drawn_row_text : Contents → List ℕ → ℕ → Row → List ℕ → List ℕ
drawn_row_text c columns top row name =
    row_head row ++ dots_text c row top 0 columns ++ codes "\"><title>" ++ name ++ codes "</title></path>\n"

-- the rows from place `top` on, each with the name of its equation
abbrev pub rows_text : MixedModel → Layers → Contents → List ℕ → ℕ → List Row → List ℕ
rows_text model layers c columns top [] = []
rows_text model layers c columns top (row ∷ rows) =
    drawn_row_text c columns top row (name_of_row model layers row)
    ++ rows_text model layers c columns (top + 1) rows

-- the name of the column at a place, upright above it
abbrev pub column_name_text : ℕ → List ℕ → List ℕ
column_name_text left name =
    codes "<text transform=\"translate" ++ with_mark 40 left ++ codes " 0)rotate(-90)\" dx=\".4em\" dy=\".95em\">" ++
    name
    ++ codes "</text>\n"

abbrev pub column_names_text : MixedModel → Layers → ℕ → List ℕ → List ℕ
column_names_text model layers left [] = []
column_names_text model layers left (column ∷ columns) =
    column_name_text left (name_of_column model layers column) ++ column_names_text model layers (left + 1) columns

-- a cell above the column at a place, so many units high, of which a viewer tells this name
abbrev pub column_cell_text : ℕ → ℕ → List ℕ → List ℕ
column_cell_text letter left name =
    codes "<path class=\"n\" d=\"" ++ with_mark 77 left ++ codes " 0v" ++ with_mark 45 letter ++ codes "h1V0z\"><title>"
    ++ name ++ codes "</title></path>\n"

abbrev pub column_cells_text : MixedModel → Layers → ℕ → ℕ → List ℕ → List ℕ
column_cells_text model layers letter left [] = []
column_cells_text model layers letter left (column ∷ columns) =
    column_cell_text letter left (name_of_column model layers column)
    ++ column_cells_text model layers letter (left + 1) columns

-- the name of the equation of the row at a place, right of all columns
abbrev pub row_name_text : ℕ → ℕ → List ℕ → List ℕ
row_name_text right top name =
    codes "<text" ++ place_attributes right top ++ codes " dx=\".4em\" dy=\"1em\">" ++ name ++ codes "</text>\n"

abbrev pub row_names_text : MixedModel → Layers → ℕ → ℕ → List Row → List ℕ
row_names_text model layers right top [] = []
row_names_text model layers right top (row ∷ rows) =
    row_name_text right top (name_of_row model layers row) ++ row_names_text model layers right (top + 1) rows

-- a line of the legend: a mark and what it stands for
abbrev pub legend_line : Row → ℕ → List ℕ → List ℕ
legend_line row top word =
    row_head row ++ dot_text 0 top ++ codes "\"/>\n<text" ++ place_attributes 1 top
    ++ codes " dx=\".4em\" dy=\"1em\">" ++ word ++ codes "</text>\n"

-- below so many rows
abbrev pub legend_text : ℕ → List ℕ
legend_text rows =
    legend_line (Constants 0) (rows + 1) (codes "a constant, in a row of P")
    ++ legend_line (Symbols 0) (rows + 2) (codes "a symbol, in a row of T")

-- how many rows and columns a tail has
abbrev pub size_text : CcfPart → List ℕ
size_text part = spaced (length part.q_rows + length part.t_rows) ++ with_mark 120 (length part.columns)

-- the sizes of the tails, and how many blocks and entries there are
abbrev pub sizes_text : Contents → List ℕ
sizes_text c =
    codes "first" ++ size_text c.first ++ codes ", blocks" ++ spaced (length c.blocks)
    ++ codes ", last" ++ size_text c.last
    ++ codes ", entries" ++ spaced (shown (sum_by length c.p + sum_by length c.t))

-- the line of the sizes, below so many rows
abbrev pub sizes_below : ℕ → Contents → List ℕ
sizes_below top c =
    codes "<text" ++ place_attributes 0 top ++ codes " dx=\"-4em\" dy=\"1em\">" ++ sizes_text c ++ codes "</text>\n"

-- how each picture begins and ends
abbrev pub opening : List ℕ
opening = codes "<svg xmlns=\"http://www.w3.org/2000/svg\" font-family=\"sans-serif\" style=\"background:#fff\""

-- the styles: frames, with this width of their lines, the first and the last one, constants and symbols, cells with
-- names, and the names of parts
abbrev pub style : List ℕ → List ℕ
style line =
    codes "<style>path{fill:#eef2f6;stroke:#667;" ++ line
    ++ codes "}.o{fill:#fbeeb8}.m{fill:#f9d3d3}.c,.s{vector-effect:none;stroke-width:.6;stroke-linecap:square}"
    ++ codes ".c{stroke:#1f4e79}.s{stroke:#d2601a;stroke-width:.68;stroke-linecap:round}"
    ++ codes ".n{stroke:none}.p{text-anchor:end;fill:#667;font-size:.8em}</style>\n"

abbrev pub thin_line : List ℕ
thin_line = codes "stroke-width:.06"

-- one pixel, whatever a unit is
abbrev pub pixel_line : List ℕ
pixel_line = codes "vector-effect:non-scaling-stroke"

abbrev pub closing : List ℕ
closing = codes "</svg>\n"

-- the attributes of a picture with names, 20 pixels for a unit: 6 units left of the columns, 14 above them and right of
-- them, and 4 below the rows
abbrev pub detailed_size : ℕ → ℕ → List ℕ
detailed_size columns rows =
    codes " font-size=\"1\" width=" ++ with_mark 34 (20 * (columns + 20))
    ++ codes "\" height=" ++ with_mark 34 (20 * (rows + 18))
    ++ codes "\" viewBox=\"-6 -14" ++ spaced (columns + 20) ++ spaced (rows + 18) ++ codes "\">\n"

-- a picture with names beside columns and rows, of these columns, rows and frames
abbrev pub placed_text : MixedModel → Layers → Contents → List ℕ → List Row → List Frame → List ℕ
placed_text model layers c columns rows frames =
    opening ++ detailed_size (length columns) (length rows) ++ style thin_line
    ++ frames_text 1 (length frames) 0 frames
    ++ rows_text model layers c columns 0 rows
    ++ codes "<g font-size=\".75\">\n"
    ++ column_names_text model layers 0 columns
    ++ row_names_text model layers (length columns) 0 rows
    ++ legend_text (length rows)
    ++ sizes_below (length rows + 3) c
    ++ codes "</g>\n" ++ closing

abbrev pub detailed_text : MixedModel → Layers → Contents → Order → List ℕ
detailed_text model layers c order = placed_text model layers c order.columns order.rows order.frames

-- the height of the letters of an outline: a fortieth of the columns, and one unit more
abbrev pub letter_of : ℕ → ℕ
letter_of columns = columns / 40 + 1

-- the attributes of an outline: 1,000 pixels wide, with six letters of room on the left and four on the other sides
abbrev pub outline_size : ℕ → ℕ → ℕ → List ℕ
outline_size letter columns rows =
    codes " width=\"1000\" font-size=" ++ with_mark 34 letter ++ codes "\" viewBox=\"" ++ with_mark 45 (6 * letter)
    ++ codes " " ++ with_mark 45 (4 * letter) ++ spaced (columns + 10 * letter) ++ spaced (rows + 8 * letter)
    ++ codes "\">\n"

-- a picture whose names a viewer tells, with letters of this height, of these columns, rows and frames
abbrev pub framed_text : MixedModel → Layers → Contents → ℕ → List ℕ → List Row → List Frame → List ℕ
framed_text model layers c letter columns rows frames =
    opening ++ outline_size letter (length columns) (length rows) ++ style pixel_line
    ++ column_cells_text model layers letter 0 columns
    ++ frames_text letter (length frames) 0 frames
    ++ rows_text model layers c columns 0 rows
    ++ sizes_below (length rows) c ++ closing

abbrev pub outline_text : MixedModel → Layers → Contents → Order → List ℕ
outline_text model layers c order =
    framed_text model layers c (letter_of (length order.columns)) order.columns order.rows order.frames

-- there are at most 64 columns and 64 rows
abbrev pub is_small : Order → Bool
is_small order = leb (length order.columns) 64 && leb (length order.rows) 64

-- the picture of a form that is placed so: with names beside it where it is small
abbrev pub picture_text : MixedModel → Layers → Contents → Order → List ℕ
picture_text model layers c order =
    if is_small order then detailed_text model layers c order else outline_text model layers c order
