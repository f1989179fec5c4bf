-- The text of a layered matrix, by its lines. Rows and columns are counted from 0 here, and from 1 in the text.
use Rattle.std.specs.Prelude.{ℕ, ◌+◌, ◌==◌, List, [], ◌∷◌, ◌++◌, codes, slice_index, if◌then◌else◌}
use Rattle.text_writer.specs.Numbers.{with_mark, spaced, item}
use Rattle.cert_text.specs.Texts.{numbers_text}
use Rattle.mixed_model.specs.Models.{MixedModel}
use Rattle.mixed_model.specs.Layers.{Layers}
use Rattle.mixed_model.specs.declared.origin.Origin.{Origin}
use Rattle.mixed_model.specs.declared.origin.Origin.TheVariants.{Unknown, Split}
use Rattle.mixed_model.specs.Names.{name_at}

-- how a line begins: its letter, its number and a space
abbrev pub line_head : ℕ → ℕ → List ℕ
line_head letter number = with_mark letter number ++ codes " "

-- the name of a column: that of its unknown, or a star and that of its split equation
abbrev pub column_name : MixedModel → Origin → List ℕ
column_name model (Unknown unknown) = name_at model.unknowns unknown
column_name model (Split equation) = codes "*" ++ name_at model.equations equation

-- the line of a column
abbrev pub column_line : MixedModel → ℕ → Origin → List ℕ
column_line model number origin = line_head 99 number ++ column_name model origin ++ codes "\n"

-- the lines of columns, the first of them with this number
abbrev pub column_lines : MixedModel → ℕ → List Origin → List ℕ
column_lines model number [] = []
column_lines model number (origin ∷ origins) =
    column_line model number origin ++ column_lines model (number + 1) origins

-- an entry of a Q row: its column and its number, and nothing where it is 0
abbrev pub q_entry_text : ℕ → ℕ → List ℕ
q_entry_text column number = if number == 0 then [] else item column number

-- the entries of a Q row, the first of them in this column
abbrev pub row_entries_text : ℕ → List ℕ → List ℕ
row_entries_text column [] = []
row_entries_text column (number ∷ row) = q_entry_text column number ++ row_entries_text (column + 1) row

-- the line of a Q row: its equation's name and its entries
abbrev pub q_line : ℕ → List ℕ → List ℕ → List ℕ
q_line number name row = line_head 113 number ++ name ++ row_entries_text 1 row ++ codes "\n"

-- the line of a T row: its equation's name and the columns of its symbols
abbrev pub t_line : ℕ → List ℕ → List ℕ → List ℕ
t_line number name columns = line_head 116 number ++ name ++ numbers_text columns ++ codes "\n"

-- the lines of rows from row k on, each by the name of its equation
abbrev pub named_row_lines : (ℕ → List ℕ → List ℕ → List ℕ) → List (List ℕ) → List ℕ → ℕ → List (List ℕ) → List ℕ
named_row_lines line names origins k [] = []
named_row_lines line names origins k (row ∷ rows) =
    line (k + 1) (name_at names (slice_index origins k)) row ++ named_row_lines line names origins (k + 1) rows

-- the number of columns, and their lines
abbrev pub columns_text : MixedModel → Layers → List ℕ
columns_text model layers =
    codes "columns" ++ spaced layers.q.width ++ codes "\n" ++ column_lines model 1 layers.column_origins

-- the text of the layered matrix of a model
abbrev pub layer_text : MixedModel → Layers → List ℕ
layer_text model layers =
    columns_text model layers
    ++ named_row_lines q_line model.equations layers.q_origins 0 layers.q.rows
    ++ named_row_lines t_line model.equations layers.t_origins 0 layers.t.rows
