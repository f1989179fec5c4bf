-- What any two answers to one input share.
use Rattle.std.proofs.Common.{◌≡◌, ℕ, ◌≤◌, List, Option, length, ap, inl, inr, sym, subst, ◌∙◌}
use Rattle.report_cli.proofs.FieldFacts.{low-of, odd-of, prime-of, some-of}
use Rattle.mixed_model.specs.Models.{MixedModel, mixed_matrix_of}
use Rattle.mixed_model.specs.Layers.{Layers}
use Rattle.mixed_layering.specs.Layers.{AreLayersOf}
use Rattle.mixed_matrices.specs.Layerings.{IsLayeredMatrixOf}
use Rattle.cert_text.specs.Right.{IsRightCcf}
use Rattle.cert_text.specs.Texts.{certificate_text}
use Rattle.cert_text.specs.Contents.{Certificate}
use Rattle.cert_text.specs.declared.kind.Kind.{Kind}
use Rattle.certificate_laws.proofs.AgreedForms.{agreed}
use Rattle.report_cli.specs.Formats.{limit_of}
use Rattle.run_ends.specs.Ways.{HasText}
use Rattle.report_cli.specs.Answer.{IsAnswer, IsAnswerOf, IsOutputText}
use Rattle.answer_texts.specs.LayerTexts.{layer_text}
use Rattle.report_cli.specs.Outputs.{IsOutputFor, output_text}
use Rattle.report_cli.specs.RightFor.{IsRightForInput}
use Rattle.answer_laws.specs.Rooms.{request_room}
use Rattle.answer_texts.specs.WholeLayers.{AreWholeLayers}
use Rattle.input_kinds.specs.Kinds.{GivesModel}
use Rattle.residue_field.specs.Modulus.{modulus_of}
use Rattle.report_cli.specs.Fields.{digits, command_modulus, certificate_version}
use Rattle.command_line.specs.Words.{Asks, AsksFor, field_of, format_of, over}
use Rattle.command_line.specs.declared.command.Command.{Command}
use Rattle.command_line.specs.declared.command.Command.TheVariants.{OfModel}
use Rattle.residue_field.specs.declared.field_name.FieldName.{FieldName}
use Rattle.command_line.specs.declared.command.Request.{Request}
use Rattle.command_line.specs.declared.command.Request.TheVariants.{Make, OfInput}
use Rattle.command_line.specs.declared.command.Task.{Task}
use Rattle.command_line.specs.declared.command.Task.TheVariants.{Analyse, Layer}
use Rattle.report_cli.specs.declared.output.Output.{Output}
use Rattle.report_cli.specs.declared.output.Output.TheVariants.{Accepted, Certificate as Certified}
use Rattle.report_cli.specs.declared.output.Output.TheVariants.{Layers as Layering, Made, Plan as Planning, Studied}
use Rattle.report_cli.specs.declared.output.Output.TheVariants.{Replies as Replying, Report as Reporting}
use Rattle.run_ends.specs.declared.status.Status.{Status}
use Rattle.run_ends.specs.declared.status.Status.TheVariants.{Done}
use Rattle.report_cli.proofs.RunWords.{of_command}
use Rattle.input_kinds.proofs.ByKind.{gives-one}
use Rattle.answer_laws.proofs.TextRooms.{output_fits}
use Rattle.answer_laws.proofs.OneMakeText.{fitting_make}
use Rattle.answer_laws.specs.Agreement.{AreAgreed}
use Rattle.answer_laws.proofs.OneLayerText.{one-layers}

-- values are numbers in an answer
abbrev pub IsNumbersText : Command → List ℕ → Status → List ℕ → Type 0
IsNumbersText command = IsOutputText {T = ℕ} (λ value. value) (command_modulus command) command

abbrev pub IsRightOutput : Command → List ℕ → Output ℕ → Type 0
IsRightOutput command = IsOutputFor {T = ℕ} (λ value. value) (command_modulus command) command

abbrev pub text_of : Output ℕ → List ℕ
text_of = output_text (λ value. value)

-- what a command reports in an answer
reported_by : (words : List (List ℕ)) (command : Command) (input text : List ℕ) → AsksFor words command →
    IsAnswer words input Done text → IsNumbersText command input Done text
reported_by words command input text asks answer = (of_command words command input Done text asks answer).1

-- an answer of `analyse` is the text of a certificate that is right
pub record IsCertified (field : Option FieldName) (kind : Kind) (input text : List ℕ) : Type 0 where
  pub certificate : Certificate
  pub text_is : text ≡ certificate_text certificate
  pub right : IsRightForInput (modulus_of (over field)) (certificate_version field) kind input certificate

-- one kind and one field have one command
same-kind : (task : Task) (kind other : Kind) (field named : Option FieldName) → OfModel task kind field ≡ OfModel task other named → other ≡ kind
same-kind task kind other field named is = cc

same-field : (task : Task) (kind other : Kind) (field named : Option FieldName) → OfModel task kind field ≡ OfModel task other named → named ≡ field
same-field task kind other field named is = cc

certified : (kind : Kind) (field : Option FieldName) (input text : List ℕ) (output : Output ℕ) →
    IsRightOutput (OfModel Analyse kind field) input output → text ≡ text_of output → IsCertified field kind input text
certified kind field input text (Certified certificate) (other, named, is, right) text_is = record {
  certificate = certificate;
  text_is = text_is;
  right = subst (λ f. IsRightForInput (modulus_of (over field)) (certificate_version f) kind input certificate) (same-field Analyse kind other field named is)
      (subst (λ k. IsRightForInput (modulus_of (over field)) (certificate_version named) k input certificate) (same-kind Analyse kind other field named is)
      right);
}
certified kind field input text (Layering model layers) (other, named, is, gives, are, whole) text_is = absurd cc
certified kind field input text (Reporting model told) (other, named, is, gives, reports) text_is = absurd cc
certified kind field input text (Planning model layers plan) (other, named, is, right) text_is = absurd cc
certified kind field input text (Studied studied) (study, one, is, right) text_is = absurd cc
certified kind field input text Accepted (is, right) text_is = absurd cc
certified kind field input text (Replying replies) (is, said) text_is = absurd cc
certified kind field input text (Made size split ccf) right text_is = absurd right

pub analysed : (words : List (List ℕ)) (kind : Kind) (field : Option FieldName) (input text : List ℕ) →
    AsksFor words (OfModel Analyse kind field) → IsAnswer words input Done text → IsCertified field kind input text
analysed words kind field input text asks answer =
    let reported = reported_by words (OfModel Analyse kind field) input text asks answer in
    certified kind field input text reported.output reported.right reported.text_is

-- an answer of `layer` is the text of whole layers
pub record IsLayered (field : Option FieldName) (kind : Kind) (input text : List ℕ) : Type 0 where
  pub model : MixedModel
  pub layers : Layers
  pub text_is : text ≡ layer_text model layers
  pub gives : GivesModel (modulus_of (over field)) kind input model
  pub are : AreLayersOf model layers
  pub whole : AreWholeLayers layers

layering : (kind : Kind) (field : Option FieldName) (input text : List ℕ) (output : Output ℕ) →
    IsRightOutput (OfModel Layer kind field) input output → text ≡ text_of output → IsLayered field kind input text
layering kind field input text (Certified certificate) (other, named, is, right) text_is = absurd cc
layering kind field input text (Layering model layers) (other, named, is, gives, are, whole) text_is = record {
  model = model;
  layers = layers;
  text_is = text_is;
  gives = subst (λ k. GivesModel (modulus_of (over field)) k input model) (same-kind Layer kind other field named is) gives;
  are = are;
  whole = whole;
}
layering kind field input text (Reporting model told) (other, named, is, gives, reports) text_is = absurd cc
layering kind field input text (Planning model layers plan) (other, named, is, right) text_is = absurd cc
layering kind field input text (Studied studied) (study, one, is, right) text_is = absurd cc
layering kind field input text Accepted (is, right) text_is = absurd cc
layering kind field input text (Replying replies) (is, said) text_is = absurd cc
layering kind field input text (Made size split ccf) right text_is = absurd right

pub layered : (words : List (List ℕ)) (kind : Kind) (field : Option FieldName) (input text : List ℕ) →
    AsksFor words (OfModel Layer kind field) → IsAnswer words input Done text → IsLayered field kind input text
layered words kind field input text asks answer =
    let reported = reported_by words (OfModel Layer kind field) input text asks answer in
    layering kind field input text reported.output reported.right reported.text_is

pub agreeing : (words : List (List ℕ)) (kind : Kind) (field : Option FieldName) (input text other : List ℕ) →
    AsksFor words (OfModel Analyse kind field) → IsAnswer words input Done text → IsAnswer words input Done other →
    AreAgreed field kind input text other
agreeing words kind field input text other asks first second =
    let p : ℕ = modulus_of (over field) in
    let one = analysed words kind field input text asks first in
    let two = analysed words kind field input other asks second in
    let a = one.right in
    let b = two.right in
    let same : b.model ≡ a.model = gives-one p kind input b.model a.model b.gives a.gives in
    let layers : IsLayeredMatrixOf (mixed_matrix_of a.model) b.layered b.origins =
    subst (λ m. IsLayeredMatrixOf (mixed_matrix_of m) b.layered b.origins) same b.layers in
    let right : IsRightCcf p (mixed_matrix_of a.model) b.layered b.origins (two.certificate).ccf =
    subst (λ m. IsRightCcf p (mixed_matrix_of m) b.layered b.origins (two.certificate).ccf) same b.right in
    record {
      first = one.certificate;
      second = two.certificate;
      first_text = one.text_is;
      second_text = two.text_is;
      first_right = a;
      second_right = b;
      agree = agreed p (prime-of (over field)) (odd-of (over field)) (mixed_matrix_of a.model) a.layered b.layered a.origins b.origins a.layers layers
          (one.certificate).ccf (two.certificate).ccf a.form b.form a.right right;
    }

pub one-layer-text : (model : MixedModel) (layers others : Layers) → AreLayersOf model layers → AreWholeLayers layers →
    AreLayersOf model others → AreWholeLayers others →
    layer_text model layers ≡ layer_text model others
one-layer-text model layers others are whole them complete = ap (layer_text model) (one-layers model layers others are whole them complete)

pub one-answer : (words : List (List ℕ)) (kind : Kind) (field : Option FieldName) (input text other : List ℕ) →
    AsksFor words (OfModel Layer kind field) → IsAnswer words input Done text → IsAnswer words input Done other →
    text ≡ other
one-answer words kind field input text other asks first second =
    let one = layered words kind field input text asks first in
    let two = layered words kind field input other asks second in
    let same : two.model ≡ one.model = gives-one (modulus_of (over field)) kind input two.model one.model two.gives one.gives in
    one.text_is ∙ one-layer-text one.model one.layers two.layers one.are one.whole (subst (λ m. AreLayersOf m two.layers) same two.are) two.whole
    ∙ sym (two.text_is ∙ ap (λ m. layer_text m two.layers) same)

-- a text that is written is that of an output for an input that is not too long
abbrev pub IsWritten : Command → List ℕ → Status → List ℕ → Type 0
IsWritten command input status text = (length input ≤ limit_of (format_of command)) × IsNumbersText command input status text

pub is-written : (command : Command) (input : List ℕ) (status : Status) (text : List ℕ) → HasText status → IsAnswerOf command input status text →
    IsWritten command input status text
is-written command input status text (inl done) answer =
    subst (λ s. IsWritten command input s text) (sym done) (subst (λ s. IsAnswerOf command input s text) done answer)
is-written command input status text (inr other) answer =
    subst (λ s. IsWritten command input s text) (sym other) (subst (λ s. IsAnswerOf command input s text) other answer)

fitting-of : (words : List (List ℕ)) (command : Command) (input : List ℕ) (status : Status) (text : List ℕ) → AsksFor words command → HasText status →
    IsAnswer words input status text → length text ≤ request_room (OfInput command) (length input)
fitting-of words command input status text asks has answer =
    let field : FieldName = over (field_of command) in
    let written = is-written command input status text has (of_command words command input status text asks answer) in
    subst (λ t. length t ≤ request_room (OfInput command) (length input)) (sym (written.1).text_is)
    (output_fits (λ value. value) (modulus_of field) (digits field) (some-of field) (low-of field) (prime-of field)
    command input (written.1).output (written.1).right written.0)

pub fitting : (words : List (List ℕ)) (request : Request) (input : List ℕ) (status : Status) (text : List ℕ) → Asks words request → HasText status →
    IsAnswer words input status text → length text ≤ request_room request (length input)
fitting words (OfInput command) input status text asks has answer = fitting-of words command input status text asks has answer
fitting words (Make n field) input status text asks has answer = fitting_make words n field input status text asks has answer
