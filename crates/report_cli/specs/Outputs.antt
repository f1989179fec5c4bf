-- What a command writes of an input.
use Rattle.std.specs.Prelude.{ℕ, ◌≡◌, ◌&&◌, List, Option, codes, if◌then◌else◌, leb, length}
use Rattle.cert_text.specs.Certificates.{IsCertificate}
use Rattle.cert_text.specs.Texts.{certificate_text}
use Rattle.cert_text.specs.declared.kind.Kind.{Kind}
use Rattle.cert_verdict.specs.Verdicts.{IsAccepted}
use Rattle.mixed_layering.specs.Layers.{AreLayersOf}
use Rattle.mixed_model.specs.Models.{mixed_matrix_of}
use Rattle.solve_plan.specs.Reports.{IsReportOf}
use Rattle.std.specs.List.{All}
use Rattle.answer_texts.specs.PlanRanges.{IsStepIn}
use Rattle.answer_texts.specs.MadeTexts.{made_text}
use Rattle.answer_texts.specs.PlanTexts.{plan_text}
use Rattle.answer_texts.specs.ReportTexts.{report_text}
use Rattle.input_kinds.specs.Kinds.{GivesModel}
use Rattle.answer_texts.specs.LayerTexts.{layer_text}
use Rattle.report_cli.specs.Fields.{certificate_version}
use Rattle.report_cli.specs.MadeFor.{IsMadeFor}
use Rattle.report_cli.specs.PlanFor.{IsPlanFor}
use Rattle.report_cli.specs.RightFor.{IsRightForInput}
use Rattle.answer_texts.specs.WholeLayers.{AreWholeLayers}
use Rattle.desk_texts.specs.Said.{IsSaidOf}
use Rattle.command_line.specs.declared.command.Command.{Command}
use Rattle.command_line.specs.declared.command.Command.TheVariants.{Check, Edit, OfModel, OfStudy}
use Rattle.command_line.specs.declared.command.Study.{Study}
use Rattle.study_outputs.specs.StudyOutputs.{IsStudiedFor, IsStudiedIn, end_of_studied, studied_text}
use Rattle.residue_field.specs.declared.field_name.FieldName.{FieldName}
use Rattle.command_line.specs.declared.command.Task.TheVariants as Task
use Rattle.command_line.specs.declared.command.Task.TheVariants.{Analyse, Layer}
use Rattle.run_ends.specs.declared.status.Status.{Status}
use Rattle.run_ends.specs.declared.status.Status.TheVariants.{Done, NotRegular}
use Rattle.report_cli.specs.declared.output.Output.{Output}
use Rattle.report_cli.specs.declared.output.Output.TheVariants.{Accepted, Certificate, Layers, Made, Plan, Replies, Report, Studied}

-- the text of an output, of which each value is seen by its number
abbrev pub output_text : {T : Type 0} → (T → ℕ) → Output T → List ℕ
output_text number (Certificate certificate) = certificate_text certificate
output_text number (Layers model layers) = layer_text model layers
output_text number (Report model told) = report_text model told
output_text number (Plan model layers plan) = plan_text number model layers plan
output_text number (Studied studied) = studied_text number studied
output_text number Accepted = codes "accepted\n"
output_text number (Replies text) = text
output_text number (Made size split ccf) = made_text size split ccf

-- how a run ends that reports so many equations and unknowns, and this rank
abbrev pub end_of_rank : ℕ → ℕ → ℕ → Status
end_of_rank equations unknowns rank = if leb equations rank && leb unknowns rank then Done else NotRegular

-- how a run ends that writes it
abbrev pub end_of : {T : Type 0} → Output T → Status
end_of (Certificate certificate) = Done
end_of (Layers model layers) = Done
end_of (Report model told) = end_of_rank told.equations told.unknowns told.rank
end_of (Plan model layers plan) = Done
end_of (Studied studied) = end_of_studied studied
end_of Accepted = Done
end_of (Replies text) = Done
end_of (Made size split ccf) = Done

-- over the residues modulo p: `analyse` gives a certificate that is right for the input, of version 1 where no field is
-- named; `layer` the model that the input gives, with its whole layers; `report` the model, with the report on it;
-- `plan` the model, with its layers and a plan; a study what it tells of the input; `check` the word that the
-- certificate in the input is accepted; `edit` the replies to its lines
abbrev pub IsOutputFor : {T : Type 0} → (T → ℕ) → ℕ → Command → List ℕ → Output T → Type 0
IsOutputFor number p command input (Certificate certificate) =
    (kind : Kind) × (field : Option FieldName) × (command ≡ OfModel Analyse kind field)
    × IsRightForInput p (certificate_version field) kind input certificate
IsOutputFor number p command input (Layers model layers) =
    (kind : Kind) × (field : Option FieldName) × (command ≡ OfModel Layer kind field)
    × GivesModel p kind input model × AreLayersOf model layers × AreWholeLayers layers
IsOutputFor number p command input (Report model told) =
    (kind : Kind) × (field : Option FieldName) × (command ≡ OfModel Task.Report kind field)
    × GivesModel p kind input model × IsReportOf p (mixed_matrix_of model) told
IsOutputFor number p command input (Plan model layers plan) =
    (kind : Kind) × (field : Option FieldName) × (command ≡ OfModel Task.Plan kind field)
    × IsPlanFor number p kind input model layers plan
IsOutputFor number p command input (Studied studied) =
    (study : Study) × (kind : Kind) × (command ≡ OfStudy study kind) × IsStudiedFor number p study kind input studied
IsOutputFor number p command input Accepted = (command ≡ Check) × IsAccepted input
IsOutputFor number p command input (Replies text) = (command ≡ Edit) × IsSaidOf p input text
IsOutputFor number p command input (Made size split ccf) = ⊥

-- and `make` tells of a made model, whatever the input is
abbrev pub IsMadeOutput : {T : Type 0} → ℕ → ℕ → Output T → Type 0
IsMadeOutput p n (Made size split ccf) = (size ≡ n) × IsMadeFor p n split ccf
IsMadeOutput p n output = ⊥

-- the certificate is one that may be read, the layers are those of the model, the report is one on the model, the steps
-- of the plan name its columns and equations, and what a study names is there
abbrev pub IsWritable : {T : Type 0} → ℕ → Output T → Type 0
IsWritable p (Certificate certificate) = IsCertificate certificate
IsWritable p (Layers model layers) = AreLayersOf model layers
IsWritable p (Report model told) = IsReportOf p (mixed_matrix_of model) told
IsWritable p (Plan model layers plan) =
    AreLayersOf model layers × All (IsStepIn (length model.equations) layers.q.width) plan.steps
IsWritable p (Studied studied) = IsStudiedIn studied
IsWritable p Accepted = Unit {0}
IsWritable p (Replies text) = Unit {0}
IsWritable p (Made size split ccf) = Unit {0}
