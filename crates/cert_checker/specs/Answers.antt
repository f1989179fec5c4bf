-- What the checker answers.
use Rattle.std.specs.Prelude.{ℕ, ◌<◌, ◌≡◌, ◌⊎◌, Result, Ok, Err}
use Rattle.residue_theory.specs.Residues.{IsPrime}
use Rattle.mixed_matrices.specs.LayeredMatrices.{LayeredMatrix}
use Rattle.mixed_matrices.specs.Layerings.{IsLayeredMatrixOf, Origins}
use Rattle.mixed_matrices.specs.Models.{MixedMatrix}
use Rattle.cert_text.specs.Contents.{Contents}
use Rattle.cert_text.specs.Ranges.{IsCcf}
use Rattle.cert_text.specs.Right.{IsRightCcf}
use Rattle.cert_text.specs.Rules.{HasLowerLists, HasReasons, LeadsDown}
use Rattle.cert_checker.specs.Checking.{IsFirstBrokenRule}
use Rattle.cert_checker.specs.Standing.{Not}
use Rattle.cert_checker.specs.declared.checking.CheckError.{CheckError}
use Rattle.cert_checker.specs.declared.checking.CheckError.TheVariants.{NoMemory, Reject}

-- why a form is not taken: the rule is the first that is broken, or memory ran out
abbrev pub IsWhyBroken : ℕ → MixedMatrix → LayeredMatrix → Contents → CheckError → Type 0
IsWhyBroken p M L c (Reject rule) = IsFirstBrokenRule p M L c rule
IsWhyBroken p M L c NoMemory = Unit {0}

-- the rules 10 to 12 are kept, or which of them is broken first; or memory ran out
abbrev pub TellsOfParts : ℕ → LayeredMatrix → Contents → Result (Unit {0}) CheckError → Type 0
TellsOfParts p L c (Ok kept) = LeadsDown p L c × HasReasons p L c × HasLowerLists p L c
TellsOfParts p L c (Err (Reject rule)) = ((rule ≡ 10) × Not (LeadsDown p L c))
    ⊎ ((rule ≡ 11) × LeadsDown p L c × Not (HasReasons p L c))
    ⊎ ((rule ≡ 12) × LeadsDown p L c × HasReasons p L c × Not (HasLowerLists p L c))
TellsOfParts p L c (Err NoMemory) = Unit {0}

-- M has a layered matrix, and this is so of each one that it has
pub record OfEachLayered (M : MixedMatrix) (Of : LayeredMatrix → Origins → Type 0) : Type 0 where
  pub layered : LayeredMatrix
  pub origins : Origins
  pub layers : IsLayeredMatrixOf M layered origins
  pub each : (L : LayeredMatrix) (O : Origins) → IsLayeredMatrixOf M L O → Of L O

-- the form is right for the model
abbrev pub IsRightFor : ℕ → MixedMatrix → Contents → Type 0
IsRightFor p M c = OfEachLayered M (λ L O. IsRightCcf p M L O c)

-- this rule is the first that it breaks
abbrev pub IsRejected : ℕ → MixedMatrix → Contents → ℕ → Type 0
IsRejected p M c rule = OfEachLayered M (λ L O. IsFirstBrokenRule p M L c rule)

-- why a form is not taken: it is rejected by this rule, or memory ran out
abbrev pub IsWhyNot : ℕ → MixedMatrix → Contents → CheckError → Type 0
IsWhyNot p M c (Reject rule) = IsRejected p M c rule
IsWhyNot p M c NoMemory = Unit {0}

-- a form that is right for one layered matrix of a model is right for the model; p is a prime above 2
abbrev pub RightForOneIsRight : Type 0
RightForOneIsRight =
    (p : ℕ) → IsPrime p → 2 < p → (M : MixedMatrix) (L : LayeredMatrix) (O : Origins) → IsLayeredMatrixOf M L O →
    (c : Contents) → IsCcf p c → IsRightCcf p M L O c → IsRightFor p M c

-- a right form is not rejected, and no form by two rules
abbrev pub ThereIsOneVerdict : Type 0
ThereIsOneVerdict =
    (p : ℕ) → IsPrime p → 2 < p → (M : MixedMatrix) (c : Contents) → IsCcf p c →
    (IsRightFor p M c → (rule : ℕ) → IsRejected p M c rule → ⊥)
    × ((j k : ℕ) → IsRejected p M c j → IsRejected p M c k → j ≡ k)
