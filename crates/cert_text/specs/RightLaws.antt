-- The law of right certificates.
use Rattle.std.specs.Prelude.{ℕ, ◌<◌, ◌↔◌}
use Rattle.residue_theory.specs.Residues.{IsPrime}
use Rattle.mixed_matrices.specs.LayeredMatrices.{LayeredMatrix}
use Rattle.mixed_matrices.specs.Layerings.{IsLayeredMatrixOf, Origins}
use Rattle.mixed_matrices.specs.Models.{MixedMatrix}
use Rattle.cert_text.specs.Contents.{Contents}
use Rattle.cert_text.specs.Ranges.{IsCcf}
use Rattle.cert_text.specs.Right.{IsRightCcf}
use Rattle.cert_text.specs.Rules.{KeepsRules}

-- a printed form is right exactly where it keeps the rules; p is a prime above 2
abbrev pub RightWhereRulesAreKept : Type 0
RightWhereRulesAreKept =
    (p : ℕ) → IsPrime p → 2 < p → (M : MixedMatrix) (L : LayeredMatrix) (O : Origins) → IsLayeredMatrixOf M L O →
    (c : Contents) → IsCcf p c → IsRightCcf p M L O c ↔ KeepsRules p M L c
