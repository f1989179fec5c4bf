-- The lines of a certificate, and which of them a text has.
use Rattle.std.specs.Prelude.{ℕ, ◌≡◌, ◌≢◌, ◌+◌, List, [], ◌∷◌, ◌++◌, length, codes}
pub use Rattle.cert_text.specs.Certificates.{IsCertificate}
use Rattle.cert_text.specs.Contents.{Certificate, Contents}
use Rattle.cert_text.specs.Texts.{spaced, kind_text, shape_text, pairs_text, entries_line, columns_line, tail_line, block_line, certificate_text}
use Rattle.cert_text.specs.declared.version.Version.{Version}
use Rattle.cert_text.specs.declared.version.Version.TheVariants.{One, Two}
use Rattle.cert_reader.specs.declared.fault.ReadCert.{ReadCert}
use Rattle.cert_reader.specs.declared.fault.ReadCert.TheVariants as errors
use Rattle.cert_reader.specs.Lines.{HasJust}

-- a line for each row, the first of them with this number
abbrev pub row_lines : {A : Type 0} → (ℕ → A → List ℕ) → ℕ → List A → List (List ℕ)
row_lines line number [] = []
row_lines line number (row ∷ rows) = line number row ∷ row_lines line (number + 1) rows

abbrev pub contents_lines : Contents → List (List ℕ)
contents_lines c =
    shape_text c.shape
    ∷ (codes "rank" ++ (spaced c.rank ++ codes "\n"))
    ∷ (codes "base" ++ (pairs_text c.base ++ codes "\n"))
    ∷ (codes "match" ++ (pairs_text c.mates ++ codes "\n"))
    ∷ (row_lines (entries_line (codes "S")) 1 c.s
    ++ (row_lines (entries_line (codes "U")) 1 c.u
    ++ (row_lines (entries_line (codes "P")) 1 c.p
    ++ (row_lines (columns_line (codes "T")) 1 c.t
    ++ (tail_line (codes "first") c.first
    ∷ (row_lines block_line 1 c.blocks ++ (tail_line (codes "last") c.last ∷ codes "end\n" ∷ [])))))))

-- the line of the version, and in version 2 that of the field
abbrev pub version_lines : Version → ℕ → List (List ℕ)
version_lines One modulus = codes "mixed-certificate 1\n" ∷ []
version_lines Two modulus = codes "mixed-certificate 2\n" ∷ (codes "field" ++ (spaced modulus ++ codes "\n")) ∷ []

-- the lines from that of the kind on; the echo is one line
abbrev pub body_lines : Certificate → List (List ℕ)
body_lines c =
    (codes "kind " ++ (kind_text c.kind ++ codes "\n"))
    ∷ (codes "length" ++ (spaced (length c.echo) ++ codes "\n"))
    ∷ (c.echo ++ codes "\n")
    ∷ contents_lines c.ccf

-- the lines of a certificate
abbrev pub certificate_lines : Certificate → List (List ℕ)
certificate_lines c = version_lines c.version c.modulus ++ body_lines c

-- The first line of a text that is refused: the lines before it begin the text of a certificate, and with this one they
-- do not.
abbrev pub IsRefusedAt : List ℕ → ℕ → Type 0
IsRefusedAt text line = (before : ℕ) × (line ≡ before + 1) × HasJust IsCertificate certificate_lines before text

-- the text is that of a certificate
pub record IsOfCertificate (text : List ℕ) : Type 0 where
  pub certificate : Certificate
  pub is : IsCertificate certificate
  pub text_is : text ≡ certificate_text certificate

-- no certificate has the text, and this line of it is the first that is refused
pub record IsNoCertificate (text : List ℕ) (line : ℕ) : Type 0 where
  pub none : (certificate : Certificate) → IsCertificate certificate → text ≢ certificate_text certificate
  pub refused : IsRefusedAt text line

-- why a text was not read: memory ran out, or this line is refused
abbrev pub IsCause : ReadCert → List ℕ → Type 0
IsCause errors.NoMemory text = Unit {0}
IsCause (errors.Refused line) text = IsRefusedAt text line
