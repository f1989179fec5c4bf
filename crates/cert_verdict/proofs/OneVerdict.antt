-- One verdict on a text.
use Rattle.std.proofs.Common.{◌≡◌, ◌≢◌, ◌≤◌, ◌<◌, ℕ, List, Result, Ok, Err, inl, inr, length, refl, ap, sym, subst, ◌∙◌, arith}
use Rattle.residue_theory.specs.Residues.{IsPrime}
use Rattle.residue_theory.proofs.Primes.{prime_65521, prime_2147483647}
use Rattle.mixed_model.specs.Models.{mixed_matrix_of}
use Rattle.cert_text.specs.Contents.{Certificate}
use Rattle.cert_text.specs.Texts.{certificate_text}
use Rattle.cert_reader.specs.CertLines.{IsCertificate, IsNoCertificate, certificate_lines}
use Rattle.cert_reader.specs.Limits.{certificate_limit}
use Rattle.cert_reader.proofs.Lines.{one_refused}
use Rattle.cert_reader.proofs.Theorem.{one_certificate}
use Rattle.cert_checker.specs.Answers.{IsRejected, IsRightFor}
use Rattle.cert_checker.proofs.OneVerdict.{not-both, one-rule}
use Rattle.input_kinds.proofs.ByKind.{given-unrefused, gives-one}
use Rattle.cert_verdict.specs.Verdicts.{BreaksFirstOfAll, IsAccepted, IsRejectedBy, IsVerdict, KeepsAllRules}
use Rattle.cert_verdict.specs.declared.judging.NotAccepted.{NotAccepted}
use Rattle.cert_verdict.specs.declared.judging.NotAccepted.TheVariants.{NoMemory, Refused as Unread, Rejected}

-- the modulus of a certificate
pub prime-modulus : (c : Certificate) → IsCertificate c → IsPrime c.modulus
prime-modulus c is = elim is.field [
  | inl small ↦ subst IsPrime (sym small) prime_65521
  | inr large ↦ subst IsPrime (sym large) prime_2147483647
]

pub big-modulus : (c : Certificate) → IsCertificate c → 2 < c.modulus
big-modulus c is = elim is.field [
  | inl small ↦ omega (arith, small)
  | inr large ↦ omega (arith, large)
]

-- of a certificate: a certificate that keeps all rules breaks none, and one that breaks a rule breaks one first
kept-unbroken : (c : Certificate) (rule : ℕ) → IsCertificate c → KeepsAllRules c → BreaksFirstOfAll c rule → ⊥
kept-unbroken c rule is keeps (inl (first, (refused, broken))) =
    given-unrefused c.modulus c.kind c.echo refused keeps.model keeps.gives broken
kept-unbroken c rule is keeps (inr (model, gives, rejected)) =
    let same : keeps.model ≡ model = gives-one c.modulus c.kind c.echo keeps.model model keeps.gives gives in
    not-both c.modulus (prime-modulus c is) (big-modulus c is) (mixed_matrix_of model) c.ccf is.ccf
    (subst (λ m. IsRightFor c.modulus (mixed_matrix_of m) c.ccf) same keeps.right) rule rejected

one-broken : (c : Certificate) (j k : ℕ) → IsCertificate c → BreaksFirstOfAll c j → BreaksFirstOfAll c k → j ≡ k
one-broken c j k is (inl (first, one)) (inl (second, two)) = first ∙ sym second
one-broken c j k is (inl (first, (refused, broken))) (inr (model, gives, rejected)) =
    given-unrefused c.modulus c.kind c.echo refused model gives broken
one-broken c j k is (inr (model, gives, rejected)) (inl (second, (refused, broken))) =
    given-unrefused c.modulus c.kind c.echo refused model gives broken
one-broken c j k is (inr (model, gives, one)) (inr (other, given, two)) =
    let same : other ≡ model = gives-one c.modulus c.kind c.echo other model given gives in
    one-rule c.modulus (prime-modulus c is) (big-modulus c is) (mixed_matrix_of model) c.ccf is.ccf j k one
    (subst (λ m. IsRejected c.modulus (mixed_matrix_of m) c.ccf k) same two)

module _ (text : List ℕ) (short : length text ≤ certificate_limit) where
  -- a text is that of one certificate
  same-certificate : (c d : Certificate) → IsCertificate c → IsCertificate d →
      text ≡ certificate_text c → text ≡ certificate_text d → c ≡ d
  same-certificate c d is other text_is others =
      one_certificate c d is other (subst (λ t. length t ≤ certificate_limit) others short) (sym text_is ∙ others)

  accepted-unbroken : (rule : ℕ) → IsAccepted text → IsRejectedBy text rule → ⊥
  accepted-unbroken rule one two =
      let same : one.certificate ≡ two.certificate =
      same-certificate one.certificate two.certificate one.is two.is one.text_is two.text_is in
      kept-unbroken two.certificate rule two.is (subst KeepsAllRules same one.keeps) two.broken

  rejected-once : (j k : ℕ) → IsRejectedBy text j → IsRejectedBy text k → j ≡ k
  rejected-once j k one two =
      let same : one.certificate ≡ two.certificate =
      same-certificate one.certificate two.certificate one.is two.is one.text_is two.text_is in
      one-broken two.certificate j k two.is (subst (λ c. BreaksFirstOfAll c j) same one.broken) two.broken

  refused-once : (j k : ℕ) → IsNoCertificate text j → IsNoCertificate text k → j ≡ k
  refused-once j k one two =
      let a = one.refused in
      let b = two.refused in
      one_refused IsCertificate certificate_lines text j k a.0 b.0 a.1 b.1 a.2 b.2

  pub one-verdict : (a b : Result (Unit {0}) NotAccepted) → IsVerdict text a → IsVerdict text b →
      a ≢ Err NoMemory → b ≢ Err NoMemory → a ≡ b
  one-verdict (Ok it) (Ok other) one two some another = refl
  one-verdict (Ok it) (Err (Unread line)) one two some another = absurd (two.none one.certificate one.is one.text_is)
  one-verdict (Ok it) (Err (Rejected rule)) one two some another = absurd (accepted-unbroken rule one two)
  one-verdict (Ok it) (Err NoMemory) one two some another = absurd (another refl)
  one-verdict (Err (Unread line)) (Ok it) one two some another = absurd (one.none two.certificate two.is two.text_is)
  one-verdict (Err (Unread j)) (Err (Unread k)) one two some another = ap (λ line. Err (Unread line)) (refused-once j k one two)
  one-verdict (Err (Unread line)) (Err (Rejected rule)) one two some another =
      absurd (one.none two.certificate two.is two.text_is)
  one-verdict (Err (Unread line)) (Err NoMemory) one two some another = absurd (another refl)
  one-verdict (Err (Rejected rule)) (Ok it) one two some another = absurd (accepted-unbroken rule two one)
  one-verdict (Err (Rejected rule)) (Err (Unread line)) one two some another =
      absurd (two.none one.certificate one.is one.text_is)
  one-verdict (Err (Rejected j)) (Err (Rejected k)) one two some another = ap (λ rule. Err (Rejected rule)) (rejected-once j k one two)
  one-verdict (Err (Rejected rule)) (Err NoMemory) one two some another = absurd (another refl)
  one-verdict (Err NoMemory) b one two some another = absurd (some refl)
