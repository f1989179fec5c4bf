-- Each text that may be written for an input fits in the room that its length gives.
use Rattle.std.proofs.Common.{◌≡◌, ℕ, zero, suc, ◌^◌, ◌<◌, ◌≤◌, List, length, ap, subst, sym, arith, lit≤}
use Rattle.mixed_model.specs.Models.{MixedModel, IsModel, mixed_matrix_of}
use Rattle.mixed_model.specs.Layers.{Layers, layered_matrix_of}
use Rattle.mixed_layering.specs.Layers.{AreLayersOf, origins_of}
use Rattle.cert_text.specs.declared.kind.Kind.{Kind}
use Rattle.cert_text.specs.Contents.{Certificate, Contents}
use Rattle.cert_text.specs.declared.version.Version.{Version}
use Rattle.cert_text.specs.declared.version.Version.TheVariants.{One}
use Rattle.text_lengths.specs.Rooms.{IsShapeWithin, certificate_room}
use Rattle.report_cli.specs.Fields.{certificate_version}
use Rattle.text_lengths.proofs.TextLengths.{certificate-short}
use Rattle.limits.specs.Limits.{input_limit}
use Rattle.input_kinds.specs.Kinds.{GivesModel}
use Rattle.report_cli.specs.RightFor.{IsRightForInput}
use Rattle.report_cli.specs.Formats.{limit_of}
use Rattle.report_cli.specs.MadeFor.{IsMadeFor}
use Rattle.report_cli.specs.Outputs.{IsMadeOutput, IsOutputFor, output_text}
use Rattle.answer_laws.specs.Rooms.{columns_within, places_within, task_room, text_room}
use Rattle.answer_laws.proofs.Narrow.{members-few, narrow}
use Rattle.answer_laws.proofs.StudyRooms.{studied-fits}
use Rattle.study_outputs.specs.StudyOutputs.{studied_text}
use Rattle.answer_texts.specs.WholeLayers.{AreWholeLayers}
use Rattle.command_line.specs.Words.{format_of}
use Rattle.command_line.specs.declared.command.Task.TheVariants as Task
use Rattle.solve_plan.specs.Reports.{IsReportOf}
use Rattle.solve_plan.specs.declared.told.Report.{Report as Told}
use Rattle.solve_plan.specs.declared.steps.Plan.{Plan}
use Rattle.answer_texts.specs.LayerTexts.{layer_text}
use Rattle.answer_texts.specs.MadeTexts.{made_text}
use Rattle.answer_texts.specs.PlanTexts.{plan_text}
use Rattle.answer_texts.specs.ReportTexts.{report_text}
use Rattle.cert_text.specs.Texts.{certificate_text}
use Rattle.residue_theory.specs.Residues.{IsPrime}
use Rattle.answer_texts.specs.Rooms.{made_room}
use Rattle.answer_texts.proofs.MadeLengths.{right-made-text-short}
use Rattle.answer_texts.proofs.PlanFacts.{columns-few, steps-few, steps-in, steps-short, sums-few, symbols-few}
use Rattle.answer_texts.proofs.PlanLengths.{plan-text-short}
use Rattle.answer_texts.proofs.ReportLengths.{report-text-short}
use Rattle.desk_text_laws.proofs.SaidLengths.{texts-short}
use Rattle.report_cli.specs.PlanFor.{IsPlanFor}
use Rattle.report_cli.proofs.ReportFacts.{rank-many, surplus-few, undetermined-few}
use Rattle.command_line.specs.declared.command.Command.{Command}
use Rattle.report_cli.specs.declared.output.Output.{Output}
use Rattle.report_cli.specs.declared.output.Output.TheVariants.{Accepted, Certificate as Certified}
use Rattle.report_cli.specs.declared.output.Output.TheVariants.{Layers as Layering, Made, Plan as Planning, Replies as Replying, Studied}
use Rattle.report_cli.specs.declared.output.Output.TheVariants.{Report as Reporting}
use Rattle.input_kinds.proofs.ByKind.{is-model}
use Rattle.input_kinds.proofs.NamesByKind.{few-names}
use Rattle.answer_texts.proofs.LayerLengths.{layer-text-short}

few_columns : (kind : Kind) (n : ℕ) → columns_within kind n ≤ 8192
few_columns kind n = omega arith

few_places : (kind : Kind) (n : ℕ) → places_within kind n ≤ columns_within kind n
few_places kind n = omega arith

-- a number of no digits is 0
pub some_digits : (p most : ℕ) → 0 < p → p < 10 ^ most → 0 < most
some_digits p zero some low = absurd (omega (arith, some, low))
some_digits p (suc most) some low = omega arith

module _ {T : Type 0} (number : T → ℕ) (p most : ℕ) (some : 0 < most) (below : p < 10 ^ most) where
  low_p : p ≤ 10 ^ most
  low_p = omega (arith, below)

  certificate-fits : (version : Version) (kind : Kind) (input : List ℕ) (c : Certificate) → IsRightForInput p version kind input c →
      length input ≤ input_limit → length (certificate_text c) ≤ task_room most version Task.Analyse kind (length input)
  certificate-fits version kind input c right short =
      let low = narrow p kind input right.model right.layered right.origins right.gives right.layers in
      let shape = (right.right).shape in
      let within : IsShapeWithin (places_within kind (length input)) (columns_within kind (length input)) c.ccf.shape = record {
        q_rows = omega (arith, shape.q_rows, low.q_rows);
        t_rows = omega (arith, shape.t_rows, low.t_rows);
        columns = omega (arith, shape.columns, low.columns);
      } in
      let echo : length c.echo ≡ length input = ap length right.echo in
      subst (λ v. length (certificate_text c) ≤ certificate_room v most (length input) (places_within kind (length input)) (columns_within kind (length input)))
      right.version_is
      (certificate-short p most some below (mixed_matrix_of right.model) right.layered right.origins c
      (length input) (places_within kind (length input)) (columns_within kind (length input)) right.modulus_is
      (omega (arith, echo)) short right.form right.right within)

  layers-fit : (kind : Kind) (input : List ℕ) (model : MixedModel) (layers : Layers) → GivesModel p kind input model → AreLayersOf model layers →
      AreWholeLayers layers → length (layer_text model layers) ≤ task_room most One Task.Layer kind (length input)
  layers-fit kind input model layers gives are whole =
      let low = narrow p kind input model (layered_matrix_of layers) (origins_of layers are.split) gives are.layered in
      omega (
        arith,
        layer-text-short p most some low_p model (is-model p kind input model gives) layers are whole
            (columns_within kind (length input)) (few_columns kind (length input))
            (omega (arith, few_places kind (length input), low.q_rows)) (omega (arith, few_places kind (length input), low.t_rows)) low.columns,
      )

  reports-fit : IsPrime p → (kind : Kind) (input : List ℕ) (model : MixedModel) (told : Told) → GivesModel p kind input model →
      IsReportOf p (mixed_matrix_of model) told → length (report_text model told) ≤ task_room most One Task.Report kind (length input)
  reports-fit prime kind input model told gives reports =
      let is : IsModel p model = is-model p kind input model gives in
      let few = few-names p kind input model gives in
      let k : ℕ = places_within kind (length input) in
      let e : length model.equations ≤ 4096 = (is.equations).few in
      let u : length model.unknowns ≤ 4096 = (is.unknowns).few in
      let low_e : length model.equations ≤ k = omega (arith, few.0, e) in
      let low_u : length model.unknowns ≤ k = omega (arith, few.1, u) in
      let M = mixed_matrix_of model in
      let equations : told.equations ≤ k = omega (arith, reports.equations, low_e) in
      let unknowns : told.unknowns ≤ k = omega (arith, reports.unknowns, low_u) in
      report-text-short p model is told k (omega arith) equations unknowns (omega (arith, rank-many p M told reports prime, equations))
      (omega (arith, surplus-few p M told reports, low_e)) (omega (arith, undetermined-few p M told reports, low_u))

  plans-fit : (kind : Kind) (input : List ℕ) (model : MixedModel) (layers : Layers) (plan : Plan T) →
      IsPlanFor number p kind input model layers plan →
      length (plan_text number model layers plan) ≤ task_room most One Task.Plan kind (length input)
  plans-fit kind input model layers plan right =
      let low = narrow p kind input model (layered_matrix_of layers) (origins_of layers (right.are).split) right.gives (right.are).layered in
      let is : IsModel p model = is-model p kind input model right.gives in
      let m : ℕ = places_within kind (length input) in
      let k : ℕ = columns_within kind (length input) in
      plan-text-short number p most some low_p model is layers m k (few_columns kind (length input)) (length model.equations) layers.q.width plan
      (steps-few number p model is layers right.are right.whole right.ccf right.form right.right plan right.is k low.columns)
      (steps-in number p model is layers right.are right.whole right.ccf right.form right.right plan right.is)
      (steps-short number p model is layers right.are right.whole right.ccf right.form right.right plan right.is m k low.q_rows low.columns)
      (omega (arith, low.columns, columns-few number p model is layers right.are right.whole right.ccf right.form right.right plan right.is))
      (omega (arith, low.q_rows, sums-few number p model is layers right.are right.whole right.ccf right.form right.right plan right.is))
      (omega (arith, low.t_rows, symbols-few number p model is layers right.are right.whole right.ccf right.form right.right plan right.is))

  pub output_fits : IsPrime p → (command : Command) (input : List ℕ) (output : Output T) → IsOutputFor number p command input output →
      length input ≤ limit_of (format_of command) → length (output_text number output) ≤ text_room most command (length input)
  output_fits prime command input (Certified c) (kind, field, is, right) short =
      subst (λ f. length (certificate_text c) ≤ text_room most f (length input)) (sym is)
      (certificate-fits (certificate_version field) kind input c right (subst (λ f. length input ≤ limit_of (format_of f)) is short))
  output_fits prime command input (Layering model layers) (kind, field, is, gives, are, whole) short =
      subst (λ f. length (layer_text model layers) ≤ text_room most f (length input)) (sym is)
      (layers-fit kind input model layers gives are whole)
  output_fits prime command input (Reporting model told) (kind, field, is, gives, reports) short =
      subst (λ f. length (report_text model told) ≤ text_room most f (length input)) (sym is)
      (reports-fit prime kind input model told gives reports)
  output_fits prime command input (Planning model layers plan) (kind, field, is, right) short =
      subst (λ f. length (plan_text number model layers plan) ≤ text_room most f (length input)) (sym is)
      (plans-fit kind input model layers plan right)
  output_fits prime command input (Studied studied) (study, kind, is, right) short =
      subst (λ f. length (studied_text number studied) ≤ text_room most f (length input)) (sym is)
      (studied-fits number p most prime some below kind input study studied right)
  output_fits prime command input Accepted (is, accepted) short =
      subst (λ f. length (output_text number Accepted) ≤ text_room most f (length input)) (sym is) (lit≤ tt)
  output_fits prime command input (Replying text) (is, said) short =
      subst (λ f. length text ≤ text_room most f (length input)) (sym is) (texts-short p input text said)
  output_fits prime command input (Made size split ccf) right short = absurd right

-- what is told of a made model fits in its room
pub made-fits : (p n split : ℕ) (ccf : Contents) → IsMadeFor p n split ccf → length (made_text n split ccf) ≤ made_room
made-fits p n split ccf right =
    let e : length (right.model).equations ≤ 4096 = ((right.is).equations).few in
    let s : (right.origins).split ≤ length (right.model).equations = members-few _ _ _ _ (right.layers).auxiliary in
    right-made-text-short p n split (mixed_matrix_of right.model) right.layered right.origins ccf right.form right.right (right.size).most
    (omega (arith, right.split_is, s, e))

pub made_fits : {T : Type 0} (number : T → ℕ) (p n : ℕ) (output : Output T) → IsMadeOutput p n output →
    length (output_text number output) ≤ made_room
made_fits number p n (Made size split ccf) (same, right) =
    subst (λ s. length (made_text s split ccf) ≤ made_room) (sym same) (made-fits p n split ccf right)
made_fits number p n (Certified c) is = absurd is
made_fits number p n (Layering model layers) is = absurd is
made_fits number p n (Reporting model told) is = absurd is
made_fits number p n (Planning model layers plan) is = absurd is
made_fits number p n (Studied studied) is = absurd is
made_fits number p n Accepted is = absurd is
made_fits number p n (Replying text) is = absurd is
