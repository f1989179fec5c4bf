-- The reports on one input are one text.
use Rattle.std.proofs.Common.{◌≡◌, ◌<◌, ◌⊎◌, ℕ, List, [], get_or, Option, inl, inr, refl, ap, sym, subst, ◌∙◌}
use Rattle.std.specs.List.{All}
use Rattle.std.proofs.lemmas.List.{get_or_default}
use Rattle.part_arcs.proofs.FormLaws.{some-has}
use Rattle.mixed_matrices.specs.Models.{MixedMatrix, value}
use Rattle.mixed_pair_laws.proofs.PairRank.{greatest-unique}
use Rattle.mixed_model.specs.Models.{MixedModel, mixed_matrix_of}
use Rattle.cert_text.specs.declared.kind.Kind.{Kind}
use Rattle.cert_text.specs.Ranges.{AreRising}
use Rattle.certificate_laws.proofs.RisingLists.{same-lists}
use Rattle.solve_plan.specs.Marks.{AreMembersOf}
use Rattle.solve_plan.specs.Reports.{IsReportOf}
use Rattle.solve_plan.specs.declared.told.Report.{Report as Told}
use Rattle.answer_texts.specs.ReportTexts.{report_text}
use Rattle.input_kinds.proofs.ByKind.{gives-one}
use Rattle.input_kinds.specs.Kinds.{GivesModel}
use Rattle.residue_field.specs.Modulus.{modulus_of}
use Rattle.residue_field.specs.declared.field_name.FieldName.{FieldName}
use Rattle.command_line.specs.Words.{over}
use Rattle.command_line.specs.declared.command.Command.TheVariants.{OfModel}
use Rattle.command_line.specs.declared.command.Task.TheVariants.{Report}
use Rattle.run_ends.specs.Ways.{HasText}
use Rattle.report_cli.specs.Answer.{IsAnswerOf}
use Rattle.report_cli.specs.Outputs.{IsOutputFor, output_text}
use Rattle.report_cli.specs.declared.output.Output.{Output}
use Rattle.report_cli.specs.declared.output.Output.TheVariants.{Accepted, Certificate as Certified}
use Rattle.report_cli.specs.declared.output.Output.TheVariants.{Layers as Layering, Made, Plan as Planning, Studied}
use Rattle.report_cli.specs.declared.output.Output.TheVariants.{Replies as Replying, Report as Reporting}
use Rattle.run_ends.specs.declared.status.Status.{Status}
use Rattle.run_ends.specs.declared.status.Status.TheVariants.{BadCertificate, Done, Memory, NotRegular, ReadFault}
use Rattle.run_ends.specs.declared.status.Status.TheVariants.{Refused, Rejected, TooLong, Usage, WriteFault}
use Rattle.report_cli.proofs.RunWords.{of_command}
use Rattle.answer_laws.specs.OneAnswer.{AnswersOfReportAreOne}
use Rattle.answer_laws.proofs.OneStatus.{one-status}

members-within : (n : ℕ) (A : ℕ → Type 0) (list : List ℕ) → AreMembersOf n A list → All (λ i. i < n) list
members-within n A list are = λ k d kl. ((are.exact (get_or list k d)).0 (some-has list k (get_or list k d) kl (get_or_default list k 0 d kl))).0

rising : (n : ℕ) (A : ℕ → Type 0) (list : List ℕ) → AreMembersOf n A list → AreRising n list
rising n A list are = record { rising = are.rising; below = members-within n A list are }

-- rising lists of the same members are one
lists-one : (n : ℕ) (A : ℕ → Type 0) (xs ys : List ℕ) → AreMembersOf n A xs → AreMembersOf n A ys → xs ≡ ys
lists-one n A xs ys one two = same-lists n xs ys (rising n A xs one) (rising n A ys two)
    (λ z low h. (two.exact z).1 ((one.exact z).0 h)) (λ z low h. (one.exact z).1 ((two.exact z).0 h))

-- a model has one report
report-one : (p : ℕ) (M : MixedMatrix) (a b : Told) → IsReportOf p M a → IsReportOf p M b → a ≡ b
report-one p M a b one two =
    let equations : a.equations ≡ b.equations = one.equations ∙ sym two.equations in
    let unknowns : a.unknowns ≡ b.unknowns = one.unknowns ∙ sym two.unknowns in
    let rank : a.rank ≡ b.rank = greatest-unique p M.rows M.columns (value M) a.rank b.rank one.rank two.rank in
    let surplus : a.surplus ≡ b.surplus = lists-one M.rows _ a.surplus b.surplus one.surplus two.surplus in
    let undetermined : a.undetermined ≡ b.undetermined = lists-one M.columns _ a.undetermined b.undetermined one.undetermined two.undetermined in
    ap (λ e. record a { equations = e }) equations
    ∙ ap (λ u. record a { equations = b.equations; unknowns = u }) unknowns
    ∙ ap (λ r. record a { equations = b.equations; unknowns = b.unknowns; rank = r }) rank
    ∙ ap (λ s. record a { equations = b.equations; unknowns = b.unknowns; rank = b.rank; surplus = s }) surplus
    ∙ ap (λ u. record { equations = b.equations; unknowns = b.unknowns; rank = b.rank; surplus = b.surplus; undetermined = u }) undetermined

-- an answer that has a text is the report on the model of the input
record IsReported (p : ℕ) (kind : Kind) (input text : List ℕ) : Type 0 where
  pub model : MixedModel
  pub told : Told
  pub gives : GivesModel p kind input model
  pub is : IsReportOf p (mixed_matrix_of model) told
  pub text_is : text ≡ report_text model told

-- it has one, or it is empty
abbrev Texts : ℕ → Kind → List ℕ → Status → List ℕ → Type 0
Texts p kind input status text = (HasText status × IsReported p kind input text) ⊎ (text ≡ [])

reported : (kind : Kind) (field : Option FieldName) (input text : List ℕ) (output : Output ℕ) →
    IsOutputFor (λ value. value) (modulus_of (over field)) (OfModel Report kind field) input output →
    text ≡ output_text (λ value. value) output → IsReported (modulus_of (over field)) kind input text
reported kind field input text (Certified certificate) (other, named, is, right) text_is = absurd cc
reported kind field input text (Layering model layers) (other, named, is, gives, are, whole) text_is = absurd cc
reported kind field input text (Reporting model told) (other, named, is, gives, reports) text_is =
    let same : other ≡ kind = cc in
    record {
      model = model;
      told = told;
      gives = subst (λ k. GivesModel (modulus_of (over field)) k input model) same gives;
      is = reports;
      text_is = text_is;
    }
reported kind field input text (Planning model layers plan) (other, named, is, right) text_is = absurd cc
reported kind field input text (Studied studied) (study, one, is, right) text_is = absurd cc
reported kind field input text Accepted (is, right) text_is = absurd cc
reported kind field input text (Replying replies) (is, said) text_is = absurd cc
reported kind field input text (Made size split ccf) right text_is = absurd right

texts : (kind : Kind) (field : Option FieldName) (input : List ℕ) (status : Status) (text : List ℕ) →
    IsAnswerOf (OfModel Report kind field) input status text → Texts (modulus_of (over field)) kind input status text
texts kind field input Done text (short, is) = inl (inl refl, reported kind field input text is.output is.right is.text_is)
texts kind field input NotRegular text (short, is) = inl (inr refl, reported kind field input text is.output is.right is.text_is)
texts kind field input Usage text answer = absurd answer
texts kind field input (Refused refused) text (short, fault, empty) = inr empty
texts kind field input (TooLong limit) text (is, long, empty) = inr empty
texts kind field input (BadCertificate line) text (short, fault, empty) = inr empty
texts kind field input ReadFault text answer = absurd answer
texts kind field input WriteFault text answer = absurd answer
texts kind field input Memory text answer = absurd answer
texts kind field input (Rejected rule) text (short, fault, empty) = inr empty

-- with one status both have a text, or neither
no-text : (kind : Kind) (field : Option FieldName) (input : List ℕ) (status : Status) (text : List ℕ) → HasText status →
    IsAnswerOf (OfModel Report kind field) input status text → IsReported (modulus_of (over field)) kind input text
no-text kind field input status text (inl done) answer =
    let at : IsAnswerOf (OfModel Report kind field) input Done text = subst (λ s. IsAnswerOf (OfModel Report kind field) input s text) done answer in
    reported kind field input text (at.1).output (at.1).right (at.1).text_is
no-text kind field input status text (inr other) answer =
    let at : IsAnswerOf (OfModel Report kind field) input NotRegular text = subst (λ s. IsAnswerOf (OfModel Report kind field) input s text) other answer in
    reported kind field input text (at.1).output (at.1).right (at.1).text_is

pub reports-one : AnswersOfReportAreOne
reports-one words kind field input a b text other asks first second = go (texts kind field input a text one)
    (texts kind field input b other two)
  where
    one : IsAnswerOf (OfModel Report kind field) input a text
    one = of_command words (OfModel Report kind field) input a text asks first

    two : IsAnswerOf (OfModel Report kind field) input b other
    two = of_command words (OfModel Report kind field) input b other asks second

    same : a ≡ b
    same = one-status words input a b text other first second

    both : IsReported (modulus_of (over field)) kind input text → IsReported (modulus_of (over field)) kind input other → text ≡ other
    both r s =
        let model : s.model ≡ r.model = gives-one (modulus_of (over field)) kind input s.model r.model s.gives r.gives in
        let told : r.told ≡ s.told = report-one (modulus_of (over field)) (mixed_matrix_of r.model) r.told s.told r.is
        (subst (λ m. IsReportOf (modulus_of (over field)) (mixed_matrix_of m) s.told) model s.is) in
        r.text_is ∙ ap (report_text r.model) told ∙ ap (λ m. report_text m s.told) (sym model) ∙ sym s.text_is

    go : Texts (modulus_of (over field)) kind input a text → Texts (modulus_of (over field)) kind input b other → text ≡ other
    go (inl (has, r)) (inl (had, s)) = both r s
    go (inl (has, r)) (inr empty) = both r (no-text kind field input b other (subst HasText same has) two)
    go (inr empty) (inl (had, s)) = both (no-text kind field input a text (subst HasText (sym same) had) one) s
    go (inr empty) (inr none) = empty ∙ sym none
