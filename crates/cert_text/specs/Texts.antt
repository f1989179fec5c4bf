-- The text of a certificate, by cases on its fields. Rows, columns and blocks are counted from 0 here, and from 1 in
-- the text.
use Rattle.std.specs.Prelude.{ℕ, ◌+◌, List, [], ◌∷◌, ◌++◌, length, codes}
pub use Rattle.text_writer.specs.Numbers.{with_mark, spaced, item}
use Rattle.cert_text.specs.Contents.{Contents, Certificate}
use Rattle.cert_text.specs.declared.kind.Kind.{Kind}
use Rattle.cert_text.specs.declared.kind.Kind.TheVariants.{Flowsheet, Matrix, Netlist}
use Rattle.cert_text.specs.declared.shape.Shape.{Shape}
use Rattle.cert_text.specs.declared.part.CcfPart.{CcfPart}
use Rattle.cert_text.specs.declared.part.CcfBlock.{CcfBlock}
use Rattle.cert_text.specs.declared.version.Version.{Version}
use Rattle.cert_text.specs.declared.version.Version.TheVariants.{One, Two}

-- a row behind its letter, behind a space
abbrev pub lettered : ℕ → ℕ → List ℕ
lettered letter row = codes " " ++ with_mark letter row

-- the items of rows and their columns
abbrev pub pairs_text : List (ℕ × ℕ) → List ℕ
pairs_text [] = []
pairs_text (pair ∷ pairs) = item (pair.0 + 1) (pair.1 + 1) ++ pairs_text pairs

-- the items of columns and the numbers there
abbrev pub entries_text : List (ℕ × ℕ) → List ℕ
entries_text [] = []
entries_text (entry ∷ entries) = item (entry.0 + 1) entry.1 ++ entries_text entries

-- the items of columns, or of blocks
abbrev pub numbers_text : List ℕ → List ℕ
numbers_text [] = []
numbers_text (number ∷ numbers) = spaced (number + 1) ++ numbers_text numbers

-- the items of rows, each behind its letter
abbrev pub letters_text : ℕ → List ℕ → List ℕ
letters_text letter [] = []
letters_text letter (row ∷ rows) = lettered letter (row + 1) ++ letters_text letter rows

-- how a numbered line begins
abbrev pub head_text : List ℕ → ℕ → List ℕ
head_text word number = word ++ spaced number ++ codes ":"

-- the line of a row of S, U or P, and of a row of T
abbrev pub entries_line : List ℕ → ℕ → List (ℕ × ℕ) → List ℕ
entries_line word number entries = head_text word number ++ entries_text entries ++ codes "\n"

abbrev pub columns_line : List ℕ → ℕ → List ℕ → List ℕ
columns_line word number columns = head_text word number ++ numbers_text columns ++ codes "\n"

-- the lines of rows, the first of them with this number
abbrev pub matrix_text : List ℕ → ℕ → List (List (ℕ × ℕ)) → List ℕ
matrix_text word number [] = []
matrix_text word number (row ∷ rows) = entries_line word number row ++ matrix_text word (number + 1) rows

abbrev pub pattern_text : List ℕ → ℕ → List (List ℕ) → List ℕ
pattern_text word number [] = []
pattern_text word number (row ∷ rows) = columns_line word number row ++ pattern_text word (number + 1) rows

-- the columns of a part, a bar, and its rows
abbrev pub part_text : CcfPart → List ℕ
part_text part = numbers_text part.columns ++ codes " |" ++ letters_text 113 part.q_rows ++ letters_text 116 part.t_rows

-- the line of a tail
abbrev pub tail_line : List ℕ → CcfPart → List ℕ
tail_line word part = word ++ part_text part ++ codes "\n"

-- the line of a block
abbrev pub block_line : ℕ → CcfBlock → List ℕ
block_line number block = head_text (codes "block") number ++ part_text block.part ++ codes " |"
    ++ numbers_text block.lower ++ codes "\n"

-- the lines of blocks, the first of them with this number
abbrev pub blocks_text : ℕ → List CcfBlock → List ℕ
blocks_text number [] = []
blocks_text number (block ∷ blocks) = block_line number block ++ blocks_text (number + 1) blocks

abbrev pub kind_text : Kind → List ℕ
kind_text Matrix = codes "matrix"
kind_text Netlist = codes "netlist"
kind_text Flowsheet = codes "flowsheet"

-- the line of the version, and in version 2 that of the field
abbrev pub version_text : Version → ℕ → List ℕ
version_text One modulus = codes "mixed-certificate 1\n"
version_text Two modulus = codes "mixed-certificate 2\nfield" ++ spaced modulus ++ codes "\n"

-- the version and the field, the kind, the length and the echo
abbrev pub echo_text : Version → ℕ → Kind → List ℕ → List ℕ
echo_text version modulus kind echo =
    version_text version modulus ++ codes "kind " ++ kind_text kind ++ codes "\nlength" ++ spaced (length echo)
    ++ codes "\n" ++ echo ++ codes "\n"

abbrev pub shape_text : Shape → List ℕ
shape_text shape =
    codes "shape" ++ spaced shape.equations ++ spaced shape.unknowns ++ spaced shape.q_rows ++ spaced shape.t_rows
    ++ spaced shape.columns ++ codes "\n"

-- the lines of the rank, the base and the match
abbrev pub pair_text : ℕ → List (ℕ × ℕ) → List (ℕ × ℕ) → List ℕ
pair_text rank base mates = codes "rank" ++ spaced rank ++ codes "\nbase" ++ pairs_text base ++ codes "\nmatch"
    ++ pairs_text mates ++ codes "\n"

-- the lines of S, U, P and T
abbrev pub matrices_text : List (List (ℕ × ℕ)) → List (List (ℕ × ℕ)) → List (List (ℕ × ℕ)) → List (List ℕ) → List ℕ
matrices_text s u p t = matrix_text (codes "S") 1 s ++ matrix_text (codes "U") 1 u ++ matrix_text (codes "P") 1 p
    ++ pattern_text (codes "T") 1 t

-- the lines of the parts
abbrev pub parts_text : CcfPart → List CcfBlock → CcfPart → List ℕ
parts_text first blocks last = tail_line (codes "first") first ++ blocks_text 1 blocks ++ tail_line (codes "last") last

-- the lines from the shape on
abbrev pub contents_text : Contents → List ℕ
contents_text c =
    shape_text c.shape ++ pair_text c.rank c.base c.mates ++ matrices_text c.s c.u c.p c.t
    ++ parts_text c.first c.blocks c.last ++ codes "end\n"

-- the text of a certificate
abbrev pub certificate_text : Certificate → List ℕ
certificate_text c = echo_text c.version c.modulus c.kind c.echo ++ contents_text c.ccf
