-- How many bytes a certificate's text has at most.
use Rattle.std.specs.Prelude.{◌≡◌, ℕ, ◌+◌, ◌*◌, ◌^◌, ◌<◌, ◌≤◌, length}
use Rattle.limits.specs.Limits.{input_limit}
use Rattle.mixed_matrices.specs.LayeredMatrices.{LayeredMatrix}
use Rattle.mixed_matrices.specs.Layerings.{Origins}
use Rattle.mixed_matrices.specs.Models.{MixedMatrix}
use Rattle.cert_text.specs.Contents.{Certificate}
use Rattle.cert_text.specs.Ranges.{IsCcf}
use Rattle.cert_text.specs.Right.{IsRightCcf}
use Rattle.cert_text.specs.Texts.{certificate_text}
use Rattle.cert_text.specs.declared.shape.Shape.{Shape}
use Rattle.cert_text.specs.declared.version.Version.{Version}
use Rattle.cert_text.specs.declared.version.Version.TheVariants.{One, Two}

-- rows of each kind number at most m, and columns at most k
pub record IsShapeWithin (m k : ℕ) (shape : Shape) : Type 0 where
  pub q_rows : shape.q_rows ≤ m
  pub t_rows : shape.t_rows ≤ m
  pub columns : shape.columns ≤ k

-- room for the lines from the shape on, where rows of each kind number at most m and columns at most k: an item of a
-- value takes at most 6 bytes and its digits, of which there are at most so many, one of a row's letter 6, one of a row
-- and a column 10, and any other 5. S and U have at most m lines of m items each, P and T at most m lines of k items;
-- the parts list each column and each row once; and the lower blocks of all blocks are fewer than half of k * k
abbrev pub contents_room : ℕ → ℕ → ℕ → ℕ
contents_room digits m k =
    72 + 64 * m + 21 * k + (12 + 2 * digits) * (m * m) + (11 + digits) * (m * k) + 3 * (k * k)

-- room for the lines before the shape, but for the echo: version 2 has one for the modulus
abbrev pub head_room : Version → ℕ → ℕ
head_room One digits = 51
head_room Two digits = 58 + digits

-- room for a certificate's text, where the input has at most n bytes
abbrev pub certificate_room : Version → ℕ → ℕ → ℕ → ℕ → ℕ
certificate_room version digits n m k = n + head_room version digits + contents_room digits m k

-- The modulus has at most so many digits, and at least one.
abbrev pub CertificateTextsAreShort : Type 0
CertificateTextsAreShort =
    (p digits : ℕ) → 0 < digits → p < 10 ^ digits →
    (M : MixedMatrix) (L : LayeredMatrix) (O : Origins) (c : Certificate) (n m k : ℕ) →
    c.modulus ≡ p → length c.echo ≤ n → n ≤ input_limit → IsCcf p c.ccf → IsRightCcf p M L O c.ccf →
    IsShapeWithin m k c.ccf.shape →
    length (certificate_text c) ≤ certificate_room c.version digits n m k

-- So each right certificate of an input that is read has at most 1,451,663,500 bytes, where values have at most ten
-- digits.
abbrev pub EachCertificateIsBelow : Type 0
EachCertificateIsBelow =
    (p : ℕ) → p < 10 ^ 10 → (M : MixedMatrix) (L : LayeredMatrix) (O : Origins) (c : Certificate) →
    c.modulus ≡ p → length c.echo ≤ input_limit → IsCcf p c.ccf → IsRightCcf p M L O c.ccf →
    length (certificate_text c) ≤ 1451663500
