-- All answers to an input have one status.
use Rattle.std.proofs.Common.{◌≡◌, ℕ, ◌≤◌, ◌<◌, ◌⊎◌, List, length}
use Rattle.std.proofs.Common.{refl, sym, ◌∙◌, ap, arith, inl, inr, subst}
use Rattle.cert_text.specs.Contents.{Certificate}
use Rattle.cert_reader.specs.Limits.{certificate_limit}
use Rattle.cert_verdict.specs.Statuses.{IsUnaccepted}
use Rattle.cert_verdict.specs.Verdicts.{IsAccepted, IsAcceptedAs}
use Rattle.cert_verdict.specs.declared.judging.Accepted.{Accepted}
use Rattle.cert_verdict.proofs.OneStatus.{accepted-no-fault, one-unaccepted}
use Rattle.matrix_picture.specs.Orders.{order_of}
use Rattle.matrix_picture.specs.Texts.{picture_text}
use Rattle.mixed_layering.specs.Layers.{AreLayersOf}
use Rattle.picture_cli.specs.Answer.{IsDrawnFor, IsPictureAnswer, IsPictureOf}
use Rattle.picture_cli.specs.Drawings.{IsLaidOut, drawing_text}
use Rattle.picture_cli.specs.declared.drawing.Drawing.{Drawing}
use Rattle.run_ends.specs.declared.status.Status.{Status}
use Rattle.run_ends.specs.declared.status.Status.TheVariants.{BadCertificate, Done, Memory, NotRegular, ReadFault}
use Rattle.run_ends.specs.declared.status.Status.TheVariants.{Refused, Rejected, TooLong, Usage, WriteFault}

-- the picture of what is drawn for an input
pub picture-of : (input : List ℕ) (drawing : Drawing ℕ) → IsDrawnFor input drawing → IsPictureOf input (drawing_text drawing)
picture-of input drawing drawn = record {
  certificate = drawing.certificate;
  model = drawing.model;
  accepted = drawn.accepted;
  layers = drawing.layered;
  are = drawn.are;
  text_is = ap (picture_text drawing.model drawing.layered drawing.certificate.ccf) drawn.placed;
}

-- what is placed of an accepted certificate is drawn for its text
pub drawn-for : (text : List ℕ) (accepted : Accepted ℕ) (drawing : Drawing ℕ) → IsAcceptedAs text accepted.certificate accepted.model →
    IsLaidOut accepted drawing → IsDrawnFor text drawing
drawn-for text accepted drawing is laid = record {
  accepted = subst (λ c. IsAcceptedAs text c drawing.model) (sym laid.certificate) (subst (λ m. IsAcceptedAs text accepted.certificate m) (sym laid.model) is);
  are = subst (λ m. AreLayersOf m drawing.layered) (sym laid.model) laid.are;
  placed = laid.placed ∙ ap (λ (c : Certificate). order_of c.ccf) (sym laid.certificate);
}

accepted-of : (input text : List ℕ) → IsPictureOf input text → IsAccepted input
accepted-of input text is = record {
  certificate = is.certificate;
  is = is.accepted.is;
  text_is = is.accepted.text_is;
  keeps = record { model = is.model; gives = is.accepted.gives; right = is.accepted.right };
}

-- the input is too long, or it is not accepted, or it is
abbrev IsLong : List ℕ → Status → Type 0
IsLong input status = (status ≡ TooLong certificate_limit) × (certificate_limit < length input)

abbrev IsFaulty : List ℕ → Status → Type 0
IsFaulty input status = (length input ≤ certificate_limit) × IsUnaccepted input status

abbrev IsDrawn : List ℕ → Status → Type 0
IsDrawn input status = (length input ≤ certificate_limit) × IsAccepted input × (status ≡ Done)

abbrev Ends : List ℕ → Status → Type 0
Ends input status = IsLong input status ⊎ (IsFaulty input status ⊎ IsDrawn input status)

ends : (input : List ℕ) (status : Status) (text : List ℕ) → IsPictureAnswer input status text → Ends input status
ends input Done text (short, (is, picture)) = inr (inr (short, accepted-of input text picture, refl))
ends input NotRegular text (short, (is, picture)) = absurd cc
ends input Usage text answer = absurd answer
ends input (Refused refused) text (short, fault, empty) = absurd fault
ends input (TooLong limit) text (is, long, empty) = inl (ap TooLong is, long)
ends input (BadCertificate line) text (short, fault, empty) = inr (inl (short, fault))
ends input ReadFault text answer = absurd answer
ends input WriteFault text answer = absurd answer
ends input Memory text answer = absurd answer
ends input (Rejected rule) text (short, fault, empty) = inr (inl (short, fault))

not-long : {A : Type 0} (input : List ℕ) → certificate_limit < length input → length input ≤ certificate_limit → A
not-long input long short = absurd (omega (arith, long, short))

one-end : (input : List ℕ) (a b : Status) → Ends input a → Ends input b → a ≡ b
one-end input a b (inl (is, long)) (inl (are, longer)) = is ∙ sym are
one-end input a b (inl (is, long)) (inr (inl (short, fault))) = not-long input long short
one-end input a b (inl (is, long)) (inr (inr (short, accepted, are))) = not-long input long short
one-end input a b (inr (inl (short, fault))) (inl (are, long)) = not-long input long short
one-end input a b (inr (inr (short, accepted, is))) (inl (are, long)) = not-long input long short
one-end input a b (inr (inl (short, one))) (inr (inl (shorter, two))) = one-unaccepted input a b short one two
one-end input a b (inr (inl (short, fault))) (inr (inr (shorter, accepted, are))) = accepted-no-fault input a short accepted fault
one-end input a b (inr (inr (short, accepted, is))) (inr (inl (shorter, fault))) = accepted-no-fault input b short accepted fault
one-end input a b (inr (inr (short, accepted, is))) (inr (inr (shorter, other, are))) = is ∙ sym are

pub one-answer : (input : List ℕ) (a b : Status) (text other : List ℕ) → IsPictureAnswer input a text → IsPictureAnswer input b other → a ≡ b
one-answer input a b text other one two = one-end input a b (ends input a text one) (ends input b other two)
