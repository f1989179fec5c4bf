-- Reading the lines of a certificate, each with the line feed that ends it.
use Rattle.std.specs.Prelude.{ℕ, ◌+◌, List, length, take, drop, codes, Result, Ok, Err, nat_lt, nat_le, nat_eq, if◌then◌else◌}
use Rattle.limits.specs.Limits.{column_limit, equation_limit}
use Rattle.residue_field.specs.Modulus.{modulus_of}
use Rattle.residue_field.specs.declared.field_name.FieldName.TheVariants.{Large, Small}
use Rattle.cert_text.specs.Texts.{head_text}
use Rattle.cert_text.specs.declared.kind.Kind.{Kind}
use Rattle.cert_text.specs.declared.kind.Kind.TheVariants.{Matrix, Netlist, Flowsheet}
use Rattle.cert_text.specs.declared.shape.Shape.{Shape}
use Rattle.cert_text.specs.declared.part.CcfPart.{CcfPart}
use Rattle.cert_text.specs.declared.part.CcfBlock.{CcfBlock}
use Rattle.cert_text.specs.declared.version.Version.{Version}
use Rattle.cert_text.specs.declared.version.Version.TheVariants.{One, Two}
use Rattle.cert_reader.specs.Fronts.{◌>>=◌, text_at, number_at, begins_with}
use Rattle.cert_reader.specs.Items.{numbers_at, letters_at, pairs_at, entries_at}

-- one of two texts, each of which stands for a value
abbrev pub either_at : {A : Type 0} → List ℕ → A → List ℕ → A → ℕ → List ℕ → Result (A × List ℕ) ℕ
either_at one a two b line bytes =
    if begins_with one bytes then Ok (a, drop (length one) bytes)
    else (if begins_with two bytes then Ok (b, drop (length two) bytes) else Err line)

unfoldable pub version_at : ℕ → List ℕ → Result (Version × List ℕ) ℕ
version_at line bytes = either_at (codes "mixed-certificate 1\n") One (codes "mixed-certificate 2\n") Two line bytes

-- the line of the field, by its modulus
unfoldable pub field_line_at : ℕ → List ℕ → Result (ℕ × List ℕ) ℕ
field_line_at line bytes =
    either_at (codes "field 65521\n") (modulus_of Small) (codes "field 2147483647\n") (modulus_of Large) line bytes

-- the field, which version 1 does not tell
unfoldable pub field_at : Version → ℕ → List ℕ → Result (ℕ × List ℕ) ℕ
field_at One line bytes = Ok (modulus_of Small, bytes)
field_at Two line bytes = field_line_at line bytes

unfoldable pub kind_at : ℕ → List ℕ → Result (Kind × List ℕ) ℕ
kind_at line bytes =
    if begins_with (codes "kind matrix\n") bytes then Ok (Matrix, drop 12 bytes)
    else (if begins_with (codes "kind netlist\n") bytes then Ok (Netlist, drop 13 bytes)
    else (if begins_with (codes "kind flowsheet\n") bytes then Ok (Flowsheet, drop 15 bytes) else Err line))

-- a number behind a word, to the end of the line
unfoldable pub count_at : List ℕ → ℕ → ℕ → List ℕ → Result (ℕ × List ℕ) ℕ
count_at word limit line bytes = do
  behind ← text_at word line bytes
  number ← number_at limit line behind.1
  feed ← text_at (codes "\n") line number.1
  Ok (number.0, feed.1)

-- so many bytes
unfoldable pub bytes_at : ℕ → ℕ → List ℕ → Result (List ℕ × List ℕ) ℕ
bytes_at count line bytes = if nat_le count (length bytes) then Ok (take count bytes, drop count bytes) else Err line

unfoldable pub echo_at : ℕ → ℕ → List ℕ → Result (List ℕ × List ℕ) ℕ
echo_at count line bytes = do
  echo ← bytes_at count line bytes
  feed ← text_at (codes "\n") line echo.1
  Ok (echo.0, feed.1)

-- a number behind a space
unfoldable pub spaced_at : ℕ → ℕ → List ℕ → Result (ℕ × List ℕ) ℕ
spaced_at limit line bytes = do
  space ← text_at (codes " ") line bytes
  number_at limit line space.1

-- one after the other, and either beside a text
abbrev pub both_at : {A B : Type 0} → (ℕ → List ℕ → Result (A × List ℕ) ℕ) → (ℕ → List ℕ → Result (B × List ℕ) ℕ) →
    ℕ → List ℕ → Result ((A × B) × List ℕ) ℕ
both_at p q line bytes = p line bytes >>= λ x. q line x.1 >>= λ y. Ok ((x.0, y.0), y.1)

abbrev pub before_at : {A : Type 0} → (ℕ → List ℕ → Result (A × List ℕ) ℕ) → List ℕ →
    ℕ → List ℕ → Result (A × List ℕ) ℕ
before_at p text line bytes = p line bytes >>= λ x. text_at text line x.1 >>= λ y. Ok (x.0, y.1)

abbrev pub behind_at : {A : Type 0} → List ℕ → (ℕ → List ℕ → Result (A × List ℕ) ℕ) →
    ℕ → List ℕ → Result (A × List ℕ) ℕ
behind_at text p line bytes = text_at text line bytes >>= λ x. p line x.1

-- a word, something, and the end of the line
abbrev pub line_at : {A : Type 0} → List ℕ → (ℕ → List ℕ → Result (A × List ℕ) ℕ) →
    ℕ → List ℕ → Result (A × List ℕ) ℕ
line_at word p line bytes = behind_at word (before_at p (codes "\n")) line bytes

-- this number behind a space
unfoldable pub exact_at : ℕ → ℕ → List ℕ → Result (Unit {0} × List ℕ) ℕ
exact_at number line bytes =
    spaced_at number line bytes >>= λ found. if nat_eq found.0 number then Ok (tt, found.1) else Err line

-- how a numbered line begins, its number read as a number
unfoldable pub head_at : List ℕ → ℕ → ℕ → List ℕ → Result (Unit {0} × List ℕ) ℕ
head_at word number line bytes = behind_at word (before_at (exact_at number) (codes ":")) line bytes

-- the numbers of equations, unknowns, Q rows, T rows and columns
abbrev pub sizes_at : ℕ → List ℕ → Result ((ℕ × (ℕ × (ℕ × (ℕ × ℕ)))) × List ℕ) ℕ
sizes_at line bytes =
    both_at (spaced_at equation_limit) (both_at (spaced_at equation_limit) (both_at (spaced_at equation_limit)
    (both_at (spaced_at equation_limit) (spaced_at column_limit)))) line bytes

unfoldable pub shape_at : ℕ → List ℕ → Result (Shape × List ℕ) ℕ
shape_at line bytes = line_at (codes "shape") sizes_at line bytes >>= λ x. Ok (
  record {
    equations = x.0.0;
    unknowns = x.0.1.0;
    q_rows = x.0.1.1.0;
    t_rows = x.0.1.1.1.0;
    columns = x.0.1.1.1.1;
  },
  x.1,
)

unfoldable pub pairs_line_at : List ℕ → ℕ → ℕ → ℕ → List ℕ → Result (List (ℕ × ℕ) × List ℕ) ℕ
pairs_line_at word m n line bytes = line_at word (pairs_at m n) line bytes

unfoldable pub entries_line_at : ℕ → List ℕ → ℕ → ℕ → ℕ → List ℕ → Result (List (ℕ × ℕ) × List ℕ) ℕ
entries_line_at modulus word n number line bytes = line_at (head_text word number) (entries_at modulus n) line bytes

unfoldable pub columns_line_at : List ℕ → ℕ → ℕ → ℕ → List ℕ → Result (List ℕ × List ℕ) ℕ
columns_line_at word n number line bytes = line_at (head_text word number) (numbers_at n) line bytes

-- the columns of a part, a bar, and its rows
unfoldable pub part_at : Shape → ℕ → List ℕ → Result (CcfPart × List ℕ) ℕ
part_at shape line bytes =
    both_at (before_at (numbers_at shape.columns) (codes " |"))
    (both_at (letters_at (codes " q") shape.q_rows) (letters_at (codes " t") shape.t_rows)) line bytes >>= λ x.
    Ok (record { columns = x.0.0; q_rows = x.0.1.0; t_rows = x.0.1.1 }, x.1)

unfoldable pub tail_at : List ℕ → Shape → ℕ → List ℕ → Result (CcfPart × List ℕ) ℕ
tail_at word shape line bytes = line_at word (part_at shape) line bytes

-- block k: its part and its lower blocks behind its number, and it has a column
unfoldable pub block_at : Shape → ℕ → ℕ → List ℕ → Result (CcfBlock × List ℕ) ℕ
block_at shape k line bytes =
    line_at (head_text (codes "block") (k + 1)) (both_at (before_at (part_at shape) (codes " |")) (numbers_at k))
    line bytes >>= λ x.
    if nat_lt 0 (length x.0.0.columns) then Ok (record { part = x.0.0; lower = x.0.1 }, x.1) else Err line
