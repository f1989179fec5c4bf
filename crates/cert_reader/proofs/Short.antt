-- What is left is no longer.
use Rattle.std.proofs.Common.{◌≡◌, ℕ, ◌^◌, ◌<◌, ◌≤◌, List, [], length, Result, Ok, ap, length-append, arith}
use Rattle.std.specs.List.{concat}
use Rattle.limits.specs.Limits.{column_limit, equation_limit}
use Rattle.cert_text.specs.Ranges.{IsShape}
use Rattle.cert_text.specs.Texts.{entries_line, columns_line}
use Rattle.cert_text.specs.declared.shape.Shape.{Shape}
use Rattle.cert_text.specs.declared.part.CcfPart.{CcfPart}
use Rattle.cert_text.specs.declared.version.Version.{Version}
use Rattle.cert_reader.specs.LineReading.{version_at, field_at, count_at, tail_at, pairs_line_at, entries_line_at, columns_line_at}
use Rattle.cert_reader.specs.CertReading.{rows_at}
use Rattle.cert_reader.proofs.Empty.{no-numbers, no-entries}
use Rattle.cert_reader.proofs.Spells.{Spells, Any}
use Rattle.cert_reader.proofs.Lines.{Reads}
use Rattle.cert_reader.proofs.LineKinds.{Spells-version, Spells-tail, Spells-count, Spells-pairs_line, Spells-entries_line, Spells-columns_line}
use Rattle.cert_reader.proofs.Rows.{Reads-rows}
use Rattle.cert_reader.proofs.Whole.{Reads-field}

pub spells_short : {A : Type 0} {E : List ℕ → Type 0} {F : A → Type 0} {t : A → List ℕ} {p : ℕ → List ℕ →
    Result (A × List ℕ) ℕ} → Spells E F t p → (line : ℕ) (bytes : List ℕ) (x : A × List ℕ) → p line bytes ≡ Ok x →
    length x.1 ≤ length bytes
spells_short {A} {E} {F} {t} {p} spells line bytes x e = (let h = spells.takes line bytes x e in omega (arith, ap length h.0, length-append (t x.0) x.1))

pub reads_short : {A : Type 0} {E : List ℕ → Type 0} {F : A → Type 0} {l : A → List (List ℕ)} {p : ℕ → List ℕ →
    Result (A × List ℕ) ℕ} → Reads Any E F l p → (line : ℕ) (bytes : List ℕ) (x : A × List ℕ) → p line bytes ≡ Ok x →
    length x.1 ≤ length bytes
reads_short {A} {E} {F} {l} {p} reads line bytes x e = (let h = reads.takes line bytes x tt e in
    omega (arith, ap length h.0, length-append (concat (l x.0)) x.1))

pub tail_short : (word : List ℕ) (shape : Shape) (line : ℕ) (bytes : List ℕ) (x : CcfPart × List ℕ) → IsShape shape →
    tail_at word shape line bytes ≡ Ok x → length x.1 ≤ length bytes
tail_short word shape line bytes x is e = spells_short (Spells-tail word shape is) line bytes x e

pub matrix_short : (modulus : ℕ) (word : List ℕ) (n count line : ℕ) (bytes : List ℕ) (x : List (List (ℕ × ℕ)) × List ℕ) → modulus < 2 ^ 32 → n ≤ column_limit →
    rows_at (entries_line_at modulus word n) count 1 line bytes ≡ Ok x → length x.1 ≤ length bytes
matrix_short modulus word n count line bytes x small few e =
    reads_short (Reads-rows (entries_line word) (entries_line_at modulus word n) [] (no-entries modulus n)
    (λ number. Spells-entries_line modulus word n number small (omega (arith, few))) count 1) line bytes x e

pub pattern_short : (word : List ℕ) (n count line : ℕ) (bytes : List ℕ) (x : List (List ℕ) × List ℕ) →
    n ≤ column_limit → rows_at (columns_line_at word n) count 1 line bytes ≡ Ok x → length x.1 ≤ length bytes
pattern_short word n count line bytes x small e = reads_short
    (Reads-rows (columns_line word) (columns_line_at word n) [] (no-numbers n)
    (λ number. Spells-columns_line word n number (omega (arith, small))) count 1) line bytes x e

pub pairs_short : (word : List ℕ) (m n line : ℕ) (bytes : List ℕ) (x : List (ℕ × ℕ) × List ℕ) → m ≤ equation_limit →
    n ≤ column_limit → pairs_line_at word m n line bytes ≡ Ok x → length x.1 ≤ length bytes
pairs_short word m n line bytes x few small e = spells_short (Spells-pairs_line word m n (omega (arith, few)) (omega (arith, small))) line bytes x e

pub count_short : (word : List ℕ) (limit line : ℕ) (bytes : List ℕ) (x : ℕ × List ℕ) → limit < 10 ^ 10 →
    count_at word limit line bytes ≡ Ok x → length x.1 ≤ length bytes
count_short word limit line bytes x small e = spells_short (Spells-count word limit small) line bytes x e

-- behind the version and the field
pub fields_short : (line next : ℕ) (bytes : List ℕ) (version : Version × List ℕ) (modulus : ℕ × List ℕ) →
    version_at line bytes ≡ Ok version → field_at version.0 next version.1 ≡ Ok modulus → length modulus.1 ≤ length bytes
fields_short line next bytes version modulus e f = omega (
  arith,
  spells_short Spells-version line bytes version e,
  reads_short (Reads-field version.0) next version.1 modulus f,
)
