-- What is left of the text of a picture once a piece of it is put.
use Rattle.std.proofs.Common.{◌≡◌, ℕ, ◌+◌, ◌<◌, List, ◌++◌, length, get_or, drop, ap, ◌∙◌}
use Rattle.text_writer.proofs.Putting.{drop_next}
use Rattle.cert_text.specs.Contents.{Contents}
use Rattle.mixed_model.specs.Layers.{Layers}
use Rattle.mixed_model.specs.Models.{MixedModel}
use Rattle.matrix_picture.specs.Names.{name_of_column, name_of_row}
use Rattle.matrix_picture.specs.Texts.{column_cell_text, column_cells_text, column_name_text, column_names_text, dots_text, entry_text}
use Rattle.matrix_picture.specs.Texts.{drawn_row_text, frame_text, framed_text, frames_text, letter_of, placed_text, row_name_text, row_names_text, rows_text}
use Rattle.matrix_picture.specs.declared.layout.Frame.{Frame}
use Rattle.matrix_picture.specs.declared.layout.Row.{Row}

pub frames_left : (least count : ℕ) (frames : List Frame) (i : ℕ) (d : Frame) → i < length frames →
    frames_text least count i (drop i frames) ≡ frame_text least count i (get_or frames i d) ++ frames_text least count (i + 1) (drop (i + 1) frames)
frames_left least count frames i d within = ap (frames_text least count i) (drop_next frames i d within)

pub dots_left : (c : Contents) (row : Row) (top : ℕ) (columns : List ℕ) (i d : ℕ) → i < length columns →
    dots_text c row top i (drop i columns) ≡ entry_text c row top i (get_or columns i d) ++ dots_text c row top (i + 1) (drop (i + 1) columns)
dots_left c row top columns i d within = ap (dots_text c row top i) (drop_next columns i d within)

pub rows_left : (model : MixedModel) (layers : Layers) (c : Contents) (columns : List ℕ) (rows : List Row) (i : ℕ) (d : Row) → i < length rows →
    rows_text model layers c columns i (drop i rows)
    ≡ drawn_row_text c columns i (get_or rows i d) (name_of_row model layers (get_or rows i d)) ++ rows_text model layers c columns (i + 1) (drop (i + 1) rows)
rows_left model layers c columns rows i d within = ap (rows_text model layers c columns i) (drop_next rows i d within)

pub column_cells_left : (model : MixedModel) (layers : Layers) (letter : ℕ) (columns : List ℕ) (i d : ℕ) → i < length columns →
    column_cells_text model layers letter i (drop i columns)
    ≡ column_cell_text letter i (name_of_column model layers (get_or columns i d)) ++ column_cells_text model layers letter (i + 1) (drop (i + 1) columns)
column_cells_left model layers letter columns i d within = ap (column_cells_text model layers letter i) (drop_next columns i d within)

pub column_names_left : (model : MixedModel) (layers : Layers) (columns : List ℕ) (i d : ℕ) → i < length columns →
    column_names_text model layers i (drop i columns)
    ≡ column_name_text i (name_of_column model layers (get_or columns i d)) ++ column_names_text model layers (i + 1) (drop (i + 1) columns)
column_names_left model layers columns i d within = ap (column_names_text model layers i) (drop_next columns i d within)

pub row_names_left : (model : MixedModel) (layers : Layers) (right : ℕ) (rows : List Row) (i : ℕ) (d : Row) → i < length rows →
    row_names_text model layers right i (drop i rows)
    ≡ row_name_text right i (name_of_row model layers (get_or rows i d)) ++ row_names_text model layers right (i + 1) (drop (i + 1) rows)
row_names_left model layers right rows i d within = ap (row_names_text model layers right i) (drop_next rows i d within)

-- the same columns, rows and frames have the same text
pub same_placed : (model : MixedModel) (layers : Layers) (c : Contents) {columns columns1 : List ℕ} {rows rows1 : List Row}
    {frames frames1 : List Frame} →
    columns ≡ columns1 → rows ≡ rows1 → frames ≡ frames1 →
    placed_text model layers c columns rows frames ≡ placed_text model layers c columns1 rows1 frames1
same_placed model layers c {columns} {columns1} {rows} {rows1} {frames} {frames1} one two three =
    ap (λ xs. placed_text model layers c xs rows frames) one ∙ ap (λ xs. placed_text model layers c columns1 xs frames) two
    ∙ ap (placed_text model layers c columns1 rows1) three

pub same_framed : (model : MixedModel) (layers : Layers) (c : Contents) {columns columns1 : List ℕ} {rows rows1 : List Row}
    {frames frames1 : List Frame} →
    columns ≡ columns1 → rows ≡ rows1 → frames ≡ frames1 →
    framed_text model layers c (letter_of (length columns)) columns rows frames
    ≡ framed_text model layers c (letter_of (length columns1)) columns1 rows1 frames1
same_framed model layers c {columns} {columns1} {rows} {rows1} {frames} {frames1} one two three =
    ap (λ (xs : List ℕ). framed_text model layers c (letter_of (length xs)) xs rows frames) one
    ∙ ap (λ xs. framed_text model layers c (letter_of (length columns1)) columns1 xs frames) two
    ∙ ap (framed_text model layers c (letter_of (length columns1)) columns1 rows1) three
