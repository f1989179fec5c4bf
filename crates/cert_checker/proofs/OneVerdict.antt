-- One verdict on a form, whichever layered matrix of the model is looked at.
use Rattle.std.proofs.Common.{◌≡◌, ℕ, zero, suc, ◌<◌, inl, inr, arith}
use Rattle.residue_theory.specs.Residues.{IsPrime}
use Rattle.residue_theory.proofs.SetLaws.{lt_cases}
use Rattle.certificate_laws.proofs.OneMatrix.{one-matrix}
use Rattle.mixed_matrices.specs.LayeredMatrices.{AreSameLayers, LayeredMatrix}
use Rattle.mixed_matrices.specs.Layerings.{IsLayeredMatrixOf, Origins, gives_q, has_symbol}
use Rattle.mixed_matrices.specs.Models.{MixedMatrix}
use Rattle.cert_text.specs.Contents.{Contents}
use Rattle.cert_text.specs.Ranges.{IsCcf}
use Rattle.cert_text.specs.Right.{IsRightCcf}
use Rattle.cert_text.proofs.PrintedRules.{printed-rules, rules-printed}
use Rattle.cert_text.proofs.RightFacts.{rules-right}
use Rattle.cert_text.proofs.RuleFacts.{right-rules}
use Rattle.cert_checker.specs.Answers.{IsRejected, IsRightFor, IsWhyBroken, IsWhyNot}
use Rattle.cert_checker.specs.declared.checking.CheckError.{CheckError}
use Rattle.cert_checker.specs.declared.checking.CheckError.TheVariants.{NoMemory, Reject}
use Rattle.cert_checker.specs.Checking.{IsFirstBrokenRule, KeepsFirst}
use Rattle.cert_checker.proofs.FirstBroken.{all-kept, broken-kept, each-kept}
use Rattle.cert_checker.proofs.MovedRules.{broken-moved, first-moved}

module _ (p : ℕ) (prime : IsPrime p) (big : 2 < p) (M : MixedMatrix) (c : Contents) (is : IsCcf p c) where
  same-of : (L K : LayeredMatrix) (O N : Origins) → IsLayeredMatrixOf M L O → IsLayeredMatrixOf M K N → AreSameLayers p L K
  same-of L K O N lay other = one-matrix M (gives_q M) (has_symbol M) L K O N lay other p

  kept-right : (L : LayeredMatrix) (O : Origins) → IsLayeredMatrixOf M L O → KeepsFirst p M L c 11 → IsRightCcf p M L O c
  kept-right L O lay each = rules-right p prime big M L O lay c is (rules-printed p M L c is (all-kept p M L c each))

  right-kept : (L : LayeredMatrix) (O : Origins) → IsLayeredMatrixOf M L O → IsRightCcf p M L O c → KeepsFirst p M L c 11
  right-kept L O lay right k low = each-kept p M L c (printed-rules p M L c (right-rules p prime big M L O lay c is right)) k

  -- what keeps the rules for one layered matrix is right for the model
  pub kept-for : (L : LayeredMatrix) (O : Origins) → IsLayeredMatrixOf M L O → KeepsFirst p M L c 11 → IsRightFor p M c
  kept-for L O lay each = record {
    layered = L;
    origins = O;
    layers = lay;
    each = λ K N other. kept-right K N other (first-moved p M c is L K (same-of L K O N lay other) 11 each);
  }

  pub right-for : (L : LayeredMatrix) (O : Origins) → IsLayeredMatrixOf M L O → IsRightCcf p M L O c → IsRightFor p M c
  right-for L O lay right = kept-for L O lay (right-kept L O lay right)

  pub rejected-for : (L : LayeredMatrix) (O : Origins) → IsLayeredMatrixOf M L O → (rule : ℕ) → IsFirstBrokenRule p M L c rule → IsRejected p M c rule
  rejected-for L O lay rule first = record {
    layered = L;
    origins = O;
    layers = lay;
    each = λ K N other. broken-moved p M c is L K (same-of L K O N lay other) (same-of K L N O other lay) rule first;
  }

  pub not-both : IsRightFor p M c → (rule : ℕ) → IsRejected p M c rule → ⊥
  not-both right rule rejected =
      let first : IsFirstBrokenRule p M right.layered c rule = rejected.each right.layered right.origins right.layers in
      broken-kept p M right.layered c rule first (printed-rules p M right.layered c
      (right-rules p prime big M right.layered right.origins right.layers c is
      (right.each right.layered right.origins right.layers)))

  -- the first broken rule is one
  earlier : (L : LayeredMatrix) (j k : ℕ) → IsFirstBrokenRule p M L c j → IsFirstBrokenRule p M L c k → j < k → ⊥
  earlier L zero k one two less = absurd (omega (arith, one.from))
  earlier L (suc zero) k one two less = absurd (omega (arith, one.from))
  earlier L (suc (suc j)) k one two less = one.broken j (omega arith) (two.kept j (omega (arith, less)))

  pub one-rule : (j k : ℕ) → IsRejected p M c j → IsRejected p M c k → j ≡ k
  one-rule j k one two =
      let L = one.layered in
      let first : IsFirstBrokenRule p M L c j = one.each L one.origins one.layers in
      let second : IsFirstBrokenRule p M L c k = two.each L one.origins one.layers in
      elim (lt_cases j k) [
        | inl less ↦ absurd (earlier L j k first second less)
        | inr rest ↦ elim (lt_cases k j) [
          | inl more ↦ absurd (earlier L k j second first more)
          | inr other ↦ omega (arith, rest, other)
        ]
      ]

  pub why-not : (L : LayeredMatrix) (O : Origins) → IsLayeredMatrixOf M L O → (why : CheckError) → IsWhyBroken p M L c why → IsWhyNot p M c why
  why-not L O lay (Reject rule) first = rejected-for L O lay rule first
  why-not L O lay NoMemory told = tt
