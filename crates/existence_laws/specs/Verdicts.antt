-- Each printed form is right for a model, or breaks a rule first; each text is that of a certificate that keeps all
-- rules or breaks one first, or a line of it is the first that is refused.
use Rattle.std.specs.Prelude.{ℕ, ◌<◌, ◌≤◌, ◌⊎◌, List, length}
use Rattle.residue_theory.specs.Residues.{IsPrime}
use Rattle.mixed_matrices.specs.Models.{MixedMatrix}
use Rattle.cert_text.specs.Contents.{Contents}
use Rattle.cert_text.specs.Ranges.{IsCcf}
use Rattle.cert_reader.specs.CertLines.{IsNoCertificate}
use Rattle.cert_reader.specs.Limits.{certificate_limit}
use Rattle.cert_checker.specs.Answers.{IsRejected, IsRightFor}
use Rattle.cert_verdict.specs.Verdicts.{IsAccepted, IsRejectedBy}

-- a form whose lines keep their ranges is right for a model, or there is the first rule that it breaks; p is a prime
-- above 2
abbrev pub EachFormHasAVerdict : Type 0
EachFormHasAVerdict =
    (p : ℕ) → IsPrime p → 2 < p → (M : MixedMatrix) (c : Contents) → IsCcf p c →
    IsRightFor p M c ⊎ ((rule : ℕ) × IsRejected p M c rule)

-- a text within the limit is accepted, or rejected by the number of a rule, or refused by the number of a line
abbrev pub EachTextHasAVerdict : Type 0
EachTextHasAVerdict =
    (text : List ℕ) → length text ≤ certificate_limit →
    IsAccepted text ⊎ ((rule : ℕ) × IsRejectedBy text rule) ⊎ ((line : ℕ) × IsNoCertificate text line)
