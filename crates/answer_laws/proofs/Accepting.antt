-- What `analyse` writes is the text of a certificate that is accepted, and no longer than such a text may be.
use Rattle.std.proofs.Common.{◌≤◌, ℕ, ◌^◌, ◌<◌, List, Option, length, codes, inl, refl, sym, subst, arith, lit<}
use Rattle.residue_field.specs.Modulus.{modulus_of}
use Rattle.residue_field.specs.declared.field_name.FieldName.{FieldName}
use Rattle.residue_field.specs.declared.field_name.FieldName.TheVariants.{Large, Small}
use Rattle.mixed_model.specs.Models.{mixed_matrix_of}
use Rattle.cert_text.specs.Contents.{Certificate}
use Rattle.cert_text.specs.Texts.{certificate_text}
use Rattle.cert_text.specs.declared.kind.Kind.{Kind}
use Rattle.text_lengths.proofs.TextLengths.{certificate-below}
use Rattle.cert_checker.specs.Answers.{IsRightFor as IsRightForModel}
use Rattle.cert_checker.proofs.OneVerdict.{right-for}
use Rattle.cert_verdict.specs.Verdicts.{IsAccepted}
use Rattle.input_kinds.specs.Kinds.{GivesModel}
use Rattle.command_line.specs.Words.{AsksFor, over}
use Rattle.command_line.specs.declared.command.Command.TheVariants.{Check, OfModel}
use Rattle.command_line.specs.declared.command.Task.TheVariants.{Analyse}
use Rattle.report_cli.specs.Answer.{IsAnswer, IsAnswerOf}
use Rattle.report_cli.specs.Fields.{certificate_version}
use Rattle.report_cli.specs.RightFor.{IsRightForInput}
use Rattle.report_cli.specs.declared.output.Output.TheVariants.{Accepted}
use Rattle.run_ends.specs.declared.status.Status.TheVariants.{Done}
use Rattle.report_cli.proofs.Certified.{is-certificate}
use Rattle.report_cli.proofs.FieldFacts.{odd-of, prime-of}
use Rattle.answer_laws.proofs.Answers.{analysed}
use Rattle.answer_laws.specs.Accepting.{AnalysedIsShort}

low-modulus : (name : FieldName) → modulus_of name < 10 ^ 10
low-modulus Small = lit< tt
low-modulus Large = lit< tt

module _ (field : Option FieldName) (kind : Kind) (input : List ℕ) (c : Certificate)
    (right : IsRightForInput (modulus_of (over field)) (certificate_version field) kind input c) where
  gives-again : GivesModel c.modulus c.kind c.echo right.model
  gives-again = subst (λ m. GivesModel m c.kind c.echo right.model) (sym right.modulus_is)
      (subst (λ k. GivesModel (modulus_of (over field)) k c.echo right.model) (sym right.kind_is)
      (subst (λ echo. GivesModel (modulus_of (over field)) kind echo right.model) (sym right.echo) right.gives))

  right-again : IsRightForModel c.modulus (mixed_matrix_of right.model) c.ccf
  right-again = subst (λ m. IsRightForModel m (mixed_matrix_of right.model) c.ccf) (sym right.modulus_is)
      (right-for (modulus_of (over field)) (prime-of (over field)) (odd-of (over field)) (mixed_matrix_of right.model) c.ccf right.form
      right.layered right.origins right.layers right.right)

  accepted-text : IsAccepted (certificate_text c)
  accepted-text = record {
    certificate = c;
    is = is-certificate field kind input c right;
    text_is = refl;
    keeps = record { model = right.model; gives = gives-again; right = right-again };
  }

  below-text : length (certificate_text c) ≤ 1451663500
  below-text =
      certificate-below (modulus_of (over field)) (low-modulus (over field)) (mixed_matrix_of right.model) right.layered right.origins c
      right.modulus_is right.short right.form right.right

  short-text : length (certificate_text c) ≤ 2147483648
  short-text = omega (arith, below-text)

pub accepting : (words others : List (List ℕ)) (kind : Kind) (field : Option FieldName) (input text : List ℕ) →
    AsksFor words (OfModel Analyse kind field) → AsksFor others Check → IsAnswer words input Done text →
    IsAnswer others text Done (codes "accepted\n")
accepting words others kind field input text asks checks answer =
    let one = analysed words kind field input text asks answer in
    let c : Certificate = one.certificate in
    let given : IsAnswerOf Check (certificate_text c) Done (codes "accepted\n") = (
      short-text field kind input c one.right,
      record {
        output = Accepted;
        right = (refl, accepted-text field kind input c one.right);
        ends = refl;
        text_is = refl;
      },
    ) in
    subst (λ t. IsAnswer others t Done (codes "accepted\n")) (sym one.text_is) (inl (Check, checks, given))

pub short-answer : AnalysedIsShort
short-answer words kind field input text asks answer =
    let one = analysed words kind field input text asks answer in
    let c : Certificate = one.certificate in
    subst (λ t. length t ≤ 1451663500) (sym one.text_is) (below-text field kind input c one.right)
