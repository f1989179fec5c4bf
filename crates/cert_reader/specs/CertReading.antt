-- Reading a certificate line by line.
use Rattle.std.specs.Prelude.{ℕ, zero, suc, ◌+◌, List, [], ◌∷◌, length, codes, Result, Ok, Err, nat_eq, if◌then◌else◌}
use Rattle.limits.specs.Limits.{column_limit, input_limit}
use Rattle.cert_text.specs.Contents.{Certificate, Contents}
use Rattle.cert_text.specs.declared.shape.Shape.{Shape}
use Rattle.cert_text.specs.declared.part.CcfPart.{CcfPart}
use Rattle.cert_text.specs.declared.part.CcfBlock.{CcfBlock}
use Rattle.cert_text.specs.declared.version.Version.{Version}
use Rattle.cert_text.specs.declared.version.Version.TheVariants.{One, Two}
use Rattle.cert_reader.specs.Fronts.{◌>>=◌, text_at, begins_with}
use Rattle.cert_reader.specs.LineReading.{version_at, field_at, kind_at, count_at, echo_at, shape_at, pairs_line_at}
use Rattle.cert_reader.specs.LineReading.{entries_line_at, columns_line_at, tail_at, block_at}

-- what is read, and what is read then, so many lines later
abbrev pub then_at : {A B : Type 0} → ℕ → (ℕ → List ℕ → Result (A × List ℕ) ℕ) →
    (A → ℕ → List ℕ → Result (B × List ℕ) ℕ) → ℕ → List ℕ → Result ((A × B) × List ℕ) ℕ
then_at lines p q line bytes = p line bytes >>= λ x. q x.0 (line + lines) x.1 >>= λ y. Ok ((x.0, y.0), y.1)

-- so many rows, the first of them with this number
unfoldable pub rows_at : {A : Type 0} → (ℕ → ℕ → List ℕ → Result (A × List ℕ) ℕ) →
    ℕ → ℕ → ℕ → List ℕ → Result (List A × List ℕ) ℕ
rows_at row zero number line bytes = Ok ([], bytes)
rows_at row (suc count) number line bytes =
    row number line bytes >>= λ x. rows_at row count (number + 1) (line + 1) x.1 >>= λ xs. Ok (x.0 ∷ xs.0, xs.1)

-- no byte
abbrev pub nothing_at : ℕ → List ℕ → Result (Unit {0} × List ℕ) ℕ
nothing_at line bytes = if nat_eq (length bytes) 0 then Ok (tt, bytes) else Err line

-- the last tail, the last line, and no byte
unfoldable pub closing_at : Shape → ℕ → List ℕ → Result (CcfPart × List ℕ) ℕ
closing_at shape line bytes =
    tail_at (codes "last") shape line bytes >>= λ x. text_at (codes "end\n") (line + 1) x.1 >>= λ y.
    nothing_at (line + 1 + 1) y.1 >>= λ z. Ok (x.0, z.1)

-- the blocks from k on, and what closes the certificate; fewer blocks than `most`
unfoldable pub blocks_at : Shape → ℕ → ℕ → ℕ → List ℕ → Result ((List CcfBlock × CcfPart) × List ℕ) ℕ
blocks_at shape zero k line bytes = Err line
blocks_at shape (suc most) k line bytes =
    if begins_with (codes "block") bytes
    then (block_at shape k line bytes >>= λ b. blocks_at shape most (k + 1) (line + 1) b.1 >>= λ t.
    Ok ((b.0 ∷ t.0.0, t.0.1), t.1))
    else (closing_at shape line bytes >>= λ x. Ok (([], x.0), x.1))

abbrev pub size_at : ℕ → List ℕ → Result (ℕ × List ℕ) ℕ
size_at line bytes = count_at (codes "length ") input_limit line bytes

abbrev pub rank_at : ℕ → List ℕ → Result (ℕ × List ℕ) ℕ
rank_at line bytes = count_at (codes "rank ") column_limit line bytes

-- the first tail, the blocks, and the last tail
abbrev pub CertificateParts : Type 0
CertificateParts = CcfPart × (List CcfBlock × CcfPart)

-- S, U, P and T, and the parts
abbrev pub Matrices : Type 0
Matrices = List (List (ℕ × ℕ)) × (List (List (ℕ × ℕ)) × (List (List (ℕ × ℕ)) × (List (List ℕ) × CertificateParts)))

-- what follows the shape: the rank, base and match, and the matrices and the parts
abbrev pub Pieces : Type 0
Pieces = ℕ × (List (ℕ × ℕ) × (List (ℕ × ℕ) × Matrices))

abbrev pub all_blocks_at : Shape → ℕ → List ℕ → Result ((List CcfBlock × CcfPart) × List ℕ) ℕ
all_blocks_at shape line bytes = blocks_at shape (suc (length bytes)) 0 line bytes

abbrev pub parts_at : Shape → ℕ → List ℕ → Result (CertificateParts × List ℕ) ℕ
parts_at shape = then_at 1 (tail_at (codes "first") shape) (λ first. all_blocks_at shape)

abbrev pub matrices_at : ℕ → Shape → ℕ → List ℕ → Result (Matrices × List ℕ) ℕ
matrices_at modulus shape =
    then_at shape.q_rows (rows_at (entries_line_at modulus (codes "S") shape.q_rows) shape.q_rows 1) (λ s.
    then_at shape.q_rows (rows_at (entries_line_at modulus (codes "U") shape.q_rows) shape.q_rows 1) (λ u.
    then_at shape.q_rows (rows_at (entries_line_at modulus (codes "P") shape.columns) shape.q_rows 1) (λ p.
    then_at shape.t_rows (rows_at (columns_line_at (codes "T") shape.columns) shape.t_rows 1) (λ t. parts_at shape))))

abbrev pub pieces_at : ℕ → Shape → ℕ → List ℕ → Result (Pieces × List ℕ) ℕ
pieces_at modulus shape =
    then_at 1 rank_at (λ rank.
    then_at 1 (pairs_line_at (codes "base") shape.q_rows shape.columns) (λ base.
    then_at 1 (pairs_line_at (codes "match") shape.t_rows shape.columns) (λ mates. matrices_at modulus shape)))

abbrev pub contents_from : Shape × Pieces → Contents
contents_from x = record {
  shape = x.0;
  rank = x.1.0;
  base = x.1.1.0;
  mates = x.1.1.1.0;
  s = x.1.1.1.1.0;
  u = x.1.1.1.1.1.0;
  p = x.1.1.1.1.1.1.0;
  t = x.1.1.1.1.1.1.1.0;
  first = x.1.1.1.1.1.1.1.1.0;
  blocks = x.1.1.1.1.1.1.1.1.1.0;
  last = x.1.1.1.1.1.1.1.1.1.1;
}

unfoldable pub contents_at : ℕ → ℕ → List ℕ → Result (Contents × List ℕ) ℕ
contents_at modulus line bytes =
    then_at 1 shape_at (pieces_at modulus) line bytes >>= λ x. Ok (contents_from x.0, x.1)

-- the lines from that of the kind on, of a certificate of this version and with values modulo this number
unfoldable pub body_at : Version → ℕ → ℕ → List ℕ → Result (Certificate × List ℕ) ℕ
body_at version modulus line bytes =
    then_at 1 kind_at (λ kind. then_at 1 size_at (λ size. then_at 1 (echo_at size) (λ echo. contents_at modulus)))
    line bytes >>= λ x.
    Ok (
      record { version = version; modulus = modulus; kind = x.0.0; echo = x.0.1.1.0; ccf = x.0.1.1.1 },
      x.1,
    )

-- how many lines tell the field
abbrev pub field_count : Version → ℕ
field_count One = 0
field_count Two = 1

unfoldable pub certificate_at : ℕ → List ℕ → Result (Certificate × List ℕ) ℕ
certificate_at line bytes =
    version_at line bytes >>= λ version. field_at version.0 (line + 1) version.1 >>= λ modulus.
    body_at version.0 modulus.0 (line + 1 + field_count version.0) modulus.1
