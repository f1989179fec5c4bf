-- How long the texts are that answer the empty input.
use Rattle.std.proofs.Common.{◌≡◌, ◌≤◌, ◌<◌, ◌^◌, ◌+◌, ℕ, List, [], ◌++◌, length, Option, None, Some, ap, sym, subst, ◌∙◌, arith}
use Rattle.std.proofs.lemmas.List.{length-append}
use Rattle.dense_q.specs.Tables.{height}
use Rattle.residue_theory.specs.Residues.{IsPrime}
use Rattle.residue_field.specs.Modulus.{modulus_of}
use Rattle.residue_field.specs.declared.field_name.FieldName.{FieldName}
use Rattle.residue_field.specs.declared.field_name.FieldName.TheVariants.{Large, Small}
use Rattle.mixed_matrices.specs.LayeredMatrices.{LayeredMatrix}
use Rattle.mixed_matrices.specs.Layerings.{IsLayeredMatrixOf, Origins}
use Rattle.mixed_model.specs.Layers.{Layers, layered_matrix_of}
use Rattle.mixed_model.specs.Models.{MixedModel, mixed_matrix_of}
use Rattle.mixed_layering.specs.Layers.{AreLayersOf, origins_of}
use Rattle.cert_text.specs.Contents.{Certificate, Contents}
use Rattle.cert_text.specs.Texts.{certificate_text, contents_text, echo_text}
use Rattle.cert_text.specs.declared.kind.Kind.{Kind}
use Rattle.cert_text.specs.declared.kind.Kind.TheVariants.{Flowsheet, Matrix, Netlist}
use Rattle.cert_text.specs.declared.part.CcfBlock.{CcfBlock}
use Rattle.cert_text.specs.declared.part.CcfPart.{CcfPart}
use Rattle.cert_text.specs.declared.version.Version.{Version}
use Rattle.cert_text.specs.declared.version.Version.TheVariants.{One, Two}
use Rattle.cert_verdict.specs.Verdicts.{IsAccepted}
use Rattle.solve_plan.specs.PlanSteps.{block_steps, solved_parts, tail_steps}
use Rattle.solve_plan.specs.Reports.{IsReportOf}
use Rattle.solve_plan.specs.declared.steps.Plan.{Plan}
use Rattle.solve_plan.specs.declared.steps.StepPart.{StepPart}
use Rattle.solve_plan.specs.declared.steps.StepPart.TheVariants.{First, Last}
use Rattle.solve_plan.specs.declared.told.Report.{Report as Told}
use Rattle.answer_texts.specs.LayerTexts.{layer_text}
use Rattle.answer_texts.specs.PlanTexts.{plan_text, steps_text}
use Rattle.answer_texts.specs.ReportTexts.{report_text}
use Rattle.answer_texts.specs.WholeLayers.{AreWholeLayers}
use Rattle.answer_texts.proofs.LayerLengths.{layer-text-short}
use Rattle.answer_texts.proofs.ReportLengths.{report-text-short}
use Rattle.input_kinds.specs.Kinds.{GivesModel}
use Rattle.input_kinds.proofs.ByKind.{is-model}
use Rattle.command_line.specs.Words.{AsksFor, over}
use Rattle.command_line.specs.declared.command.Command.{Command}
use Rattle.command_line.specs.declared.command.Task.TheVariants as Task
use Rattle.run_ends.specs.Ways.{HasText}
use Rattle.report_cli.specs.Answer.{IsAnswer}
use Rattle.report_cli.specs.Fields.{command_modulus, digits, certificate_version}
use Rattle.report_cli.specs.PlanFor.{IsPlanFor}
use Rattle.report_cli.specs.RightFor.{IsRightForInput}
use Rattle.report_cli.specs.declared.output.Output.{Output}
use Rattle.report_cli.specs.declared.output.Output.TheVariants.{Accepted, Certificate as Certified}
use Rattle.report_cli.specs.declared.output.Output.TheVariants.{Layers as Layering, Made, Plan as Planning, Studied}
use Rattle.report_cli.specs.declared.output.Output.TheVariants.{Replies as Replying, Report as Reporting}
use Rattle.run_ends.specs.declared.status.Status.{Status}
use Rattle.input_kinds.proofs.NamesByKind.{no-names}
use Rattle.report_cli.proofs.FieldFacts.{low-of, prime-of, some-of}
use Rattle.report_cli.proofs.ReportFacts.{rank-many, surplus-few, undetermined-few}
use Rattle.report_cli.proofs.RunWords.{of_command}
use Rattle.answer_laws.proofs.Narrow.{members-few}
use Rattle.answer_laws.proofs.EmptyStudies.{studies-few}
use Rattle.study_outputs.specs.StudyOutputs.{IsStudiedFor, studied_text}
use Rattle.answer_laws.specs.EmptyRooms.{empty_room}
use Rattle.answer_laws.specs.NoAnswers.{empty_text}
use Rattle.answer_laws.proofs.Answers.{IsRightOutput, is-written, text_of}
use Rattle.answer_laws.proofs.EmptyInput.{empty-blocks, empty-certificate, empty-list, empty-part, nothing}

-- the certificate of nothing
certificate-room : (field : Option FieldName) (kind : Kind) → length (empty_text field kind) ≤ 115
certificate-room None Matrix = omega arith
certificate-room None Netlist = omega arith
certificate-room None Flowsheet = omega arith
certificate-room (Some Small) Matrix = omega arith
certificate-room (Some Small) Netlist = omega arith
certificate-room (Some Small) Flowsheet = omega arith
certificate-room (Some Large) Matrix = omega arith
certificate-room (Some Large) Netlist = omega arith
certificate-room (Some Large) Flowsheet = omega arith

-- the layered matrix of a model of nothing
record IsNowhere (L : LayeredMatrix) : Type 0 where
  q_rows : L.q_rows ≡ 0
  t_rows : L.t_rows ≡ 0
  columns : L.columns ≡ 0

module _ (p : ℕ) (kind : Kind) (model : MixedModel) (gives : GivesModel p kind [] model) where
  nowhere : (L : LayeredMatrix) (O : Origins) → IsLayeredMatrixOf (mixed_matrix_of model) L O → IsNowhere L
  nowhere L O are =
      let none = no-names p kind model gives in
      let s : O.split ≤ length model.equations = members-few _ _ _ _ are.auxiliary in
      record {
        q_rows = let q : L.q_rows ≤ length model.equations = members-few _ _ _ _ are.q_rows in omega (arith, none.0, q);
        t_rows = let t : L.t_rows ≤ length model.equations = members-few _ _ _ _ are.t_rows in omega (arith, none.0, t);
        columns = let n : L.columns ≡ length model.unknowns + O.split = are.columns in omega (arith, none.0, none.1, n, s);
      }

  layers-few : (most : ℕ) → 0 < most → p < 10 ^ most → (layers : Layers) → AreLayersOf model layers → AreWholeLayers layers →
      length (layer_text model layers) ≤ 14
  layers-few most some low layers are whole =
      let no = nowhere (layered_matrix_of layers) (origins_of layers are.split) are.layered in
      let q : height layers.q ≤ 0 = omega (arith, no.q_rows) in
      let t : length layers.t.rows ≤ 0 = omega (arith, no.t_rows) in
      let n : layers.q.width ≤ 0 = omega (arith, no.columns) in
      omega (arith, layer-text-short p most some (omega (arith, low)) model (is-model p kind [] model gives) layers are whole 0 (omega arith) q t n)

  reports-few : IsPrime p → (told : Told) → IsReportOf p (mixed_matrix_of model) told → length (report_text model told) ≤ 72
  reports-few prime told reports =
      let none = no-names p kind model gives in
      let M = mixed_matrix_of model in
      let equations : told.equations ≤ 0 = omega (arith, reports.equations, none.0) in
      let unknowns : told.unknowns ≤ 0 = omega (arith, reports.unknowns, none.1) in
      omega (
        arith,
        report-text-short p model (is-model p kind [] model gives) told 0 (omega arith) equations unknowns
            (omega (arith, rank-many p M told reports prime, equations))
            (omega (arith, surplus-few p M told reports, none.0)) (omega (arith, undetermined-few p M told reports, none.1)),
      )

-- a form of nothing has no part that is solved
abbrev solved_of : CcfPart → List CcfBlock → CcfPart → List (StepPart × CcfPart)
solved_of first blocks last = tail_steps Last last ++ block_steps 0 blocks ++ tail_steps First first

nothing-solved : (c : Contents) → c.first ≡ nothing → c.blocks ≡ [] → c.last ≡ nothing → solved_parts c ≡ []
nothing-solved c first blocks last =
    ap (λ x. solved_of x c.blocks c.last) first ∙ ap (λ x. solved_of nothing x c.last) blocks ∙ ap (solved_of nothing []) last

plans-few : (p : ℕ) (kind : Kind) (model : MixedModel) (layers : Layers) (plan : Plan ℕ) → IsPlanFor (λ value. value) p kind [] model layers plan →
    length (plan_text (λ value. value) model layers plan) ≤ 0
plans-few p kind model layers plan right =
    let c : Contents = right.ccf in
    let no = nowhere p kind model right.gives (layered_matrix_of layers) (origins_of layers (right.are).split) (right.are).layered in
    let shape = (right.right).shape in
    let is = right.form in
    let first : c.first ≡ nothing = empty-part c.shape c.first (shape.q_rows ∙ no.q_rows) (shape.t_rows ∙ no.t_rows) (shape.columns ∙ no.columns) is.first in
    let last : c.last ≡ nothing = empty-part c.shape c.last (shape.q_rows ∙ no.q_rows) (shape.t_rows ∙ no.t_rows) (shape.columns ∙ no.columns) is.last in
    let blocks : c.blocks ≡ [] = empty-blocks c.shape c.blocks (shape.columns ∙ no.columns) is.blocks in
    let solved : length (solved_parts c) ≡ 0 = ap length (nothing-solved c first blocks last) in
    let steps : plan.steps ≡ [] = empty-list plan.steps (((right.is).are).count ∙ solved) in
    let text : plan_text (λ value. value) model layers plan ≡ [] = ap (steps_text (λ value. value) model layers 1) steps in
    omega (arith, ap length text)

-- the empty text is no certificate
some-echo : (version : Version) (modulus : ℕ) (kind : Kind) (echo : List ℕ) → 0 < length (echo_text version modulus kind echo)
some-echo One modulus kind echo = omega arith
some-echo Two modulus kind echo = omega arith

unaccepted : IsAccepted [] → ⊥
unaccepted accepted =
    let c : Certificate = accepted.certificate in
    let echo : List ℕ = echo_text c.version c.modulus c.kind c.echo in
    let none : 0 ≡ length (certificate_text c) = ap length accepted.text_is in
    omega (arith, none, some-echo c.version c.modulus c.kind c.echo, length-append echo (contents_text c.ccf))

fits-empty : (command : Command) (output : Output ℕ) → IsRightOutput command [] output → length (text_of output) ≤ empty_room command
fits-empty command (Certified c) (kind, field, is, right) =
    let here : IsRightForInput (modulus_of (over field)) (certificate_version field) kind [] c =
    subst (λ x. IsRightForInput (command_modulus x) (certificate_version field) kind [] c) is right in
    subst (λ x. length (certificate_text c) ≤ empty_room x) (sym is)
    (omega (arith, ap length (empty-certificate field kind c here), certificate-room field kind))
fits-empty command (Layering model layers) (kind, field, is, gives, are, whole) =
    let here : GivesModel (modulus_of (over field)) kind [] model = subst (λ x. GivesModel (command_modulus x) kind [] model) is gives in
    subst (λ x. length (layer_text model layers) ≤ empty_room x) (sym is)
    (layers-few (modulus_of (over field)) kind model here (digits (over field)) (some-of (over field)) (low-of (over field)) layers are whole)
fits-empty command (Reporting model told) (kind, field, is, gives, reports) =
    let here : GivesModel (modulus_of (over field)) kind [] model = subst (λ x. GivesModel (command_modulus x) kind [] model) is gives in
    let same : IsReportOf (modulus_of (over field)) (mixed_matrix_of model) told =
    subst (λ x. IsReportOf (command_modulus x) (mixed_matrix_of model) told) is reports in
    subst (λ x. length (report_text model told) ≤ empty_room x) (sym is)
    (reports-few (modulus_of (over field)) kind model here (prime-of (over field)) told same)
fits-empty command (Planning model layers plan) (kind, field, is, right) =
    subst (λ x. length (plan_text (λ value. value) model layers plan) ≤ empty_room x) (sym is)
    (plans-few (command_modulus command) kind model layers plan right)
fits-empty command (Studied studied) (study, kind, is, right) =
    subst (λ x. length (studied_text (λ value. value) studied) ≤ empty_room x) (sym is)
    (studies-few study kind studied (subst (λ x. IsStudiedFor (λ value. value) (command_modulus x) study kind [] studied) is right))
fits-empty command Accepted (is, accepted) = absurd (unaccepted accepted)
fits-empty command (Replying replies) (is, said) =
    subst (λ x. length replies ≤ empty_room x) (sym is) (omega (arith, ap length said))
fits-empty command (Made size split ccf) right = absurd right

pub needs-little : (words : List (List ℕ)) (command : Command) (status : Status) (text : List ℕ) → AsksFor words command → HasText status →
    IsAnswer words [] status text → length text ≤ empty_room command
needs-little words command status text asks has answer =
    let written = is-written command [] status text has (of_command words command [] status text asks answer) in
    subst (λ t. length t ≤ empty_room command) (sym (written.1).text_is) (fits-empty command (written.1).output (written.1).right)
