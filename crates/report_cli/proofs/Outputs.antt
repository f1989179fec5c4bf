-- Reports of an input.
use Rattle.std.proofs.Common.{◌≡◌, ◌&&◌, ◌⊎◌, ℕ, List, Option, Bool, true, false, if◌then◌else◌, inl, inr, leb, refl, ap, subst, sym, ◌∙◌, arith}
use Rattle.mixed_matrices.specs.Models.{MixedMatrix}
use Rattle.mixed_matrices.specs.StructuralRanks.{IsStructuralRank}
use Rattle.mixed_model.specs.Models.{MixedModel, mixed_matrix_of}
use Rattle.cert_text.specs.declared.kind.Kind.{Kind}
use Rattle.input_kinds.proofs.ByKind.{gives-one, is-model}
use Rattle.solve_plan.specs.Reports.{IsReportOf}
use Rattle.solve_plan.specs.declared.told.Report.{Report as Told}
use Rattle.answer_texts.proofs.PlanFacts.{steps-in}
use Rattle.command_line.specs.declared.command.Command.{Command}
use Rattle.command_line.specs.declared.command.Command.TheVariants.{OfModel, OfStudy}
use Rattle.command_line.specs.declared.command.Study.{Study}
use Rattle.study_outputs.specs.StudyOutputs.{IsStudiedFor}
use Rattle.study_outputs.specs.declared.studied.Studied.{Studied as Study-told}
use Rattle.study_outputs.proofs.Ends.{studied-alike, studied-keeps, studied-text}
use Rattle.study_outputs.proofs.Ranges.{studied-in}
use Rattle.residue_field.specs.declared.field_name.FieldName.{FieldName}
use Rattle.command_line.specs.declared.command.Task.TheVariants as Task
use Rattle.report_cli.specs.declared.output.Output.{Output}
use Rattle.report_cli.specs.declared.output.Output.TheVariants.{Accepted, Certificate, Layers, Made, Plan, Replies, Report, Studied}
use Rattle.run_ends.specs.declared.status.Status.TheVariants.{Done, NotRegular}
use Rattle.run_ends.specs.Ways.{HasText}
use Rattle.report_cli.specs.Formats.{KeepsFormat}
use Rattle.input_kinds.specs.Kinds.{GivesModel}
use Rattle.command_line.specs.Words.{format_of}
use Rattle.report_cli.specs.Fields.{command_modulus, certificate_version}
use Rattle.report_cli.specs.RightFor.{IsRightForInput}
use Rattle.report_cli.proofs.Certified.{is-certificate}
use Rattle.report_cli.specs.Outputs.{IsOutputFor, IsWritable, end_of, end_of_rank}

-- an output on an input can be written
pub writable : {T : Type 0} (number : T → ℕ) (p : ℕ) (command : Command) (input : List ℕ) (output : Output T) → p ≡ command_modulus command →
    IsOutputFor number p command input output → IsWritable p output
writable number p command input (Certificate certificate) over_field (kind, field, is, right) =
    is-certificate field kind input certificate (subst (λ m. IsRightForInput m (certificate_version field) kind input certificate)
    (over_field ∙ ap command_modulus is) right)
writable number p command input (Layers model layers) over_field (kind, field, is, gives, are, whole) = are
writable number p command input (Report model told) over_field (kind, field, is, gives, reports) = reports
writable number p command input (Plan model layers plan) over_field (kind, field, is, right) =
    (right.are, steps-in number p model (is-model p kind input model right.gives) layers right.are right.whole right.ccf right.form right.right plan right.is)
writable number p command input (Studied studied) over_field (study, kind, is, right) = studied-in number p study kind input studied right
writable number p command input Accepted over_field (is, accepted) = tt
writable number p command input (Replies text) over_field (is, said) = tt
writable number p command input (Made size split ccf) over_field right = tt

-- an input that has an output keeps each rule
pub keeps-rules : {T : Type 0} (number : T → ℕ) (p : ℕ) (command : Command) (input : List ℕ) (output : Output T) →
    IsOutputFor number p command input output → KeepsFormat p (format_of command) input
keeps-rules number p command input (Certificate certificate) (kind, field, is, right) =
    subst (λ c. KeepsFormat p (format_of c) input) (sym is) (right.model, right.gives)
keeps-rules number p command input (Layers model layers) (kind, field, is, gives, are, whole) =
    subst (λ c. KeepsFormat p (format_of c) input) (sym is) (model, gives)
keeps-rules number p command input (Report model told) (kind, field, is, gives, reports) =
    subst (λ c. KeepsFormat p (format_of c) input) (sym is) (model, gives)
keeps-rules number p command input (Plan model layers plan) (kind, field, is, right) =
    subst (λ c. KeepsFormat p (format_of c) input) (sym is) (model, right.gives)
keeps-rules number p command input (Studied studied) (study, kind, is, right) =
    subst (λ c. KeepsFormat p (format_of c) input) (sym is) (studied-keeps number p study kind input studied right)
keeps-rules number p command input Accepted (is, accepted) = subst (λ c. KeepsFormat p (format_of c) input) (sym is) accepted
keeps-rules number p command input (Replies text) (is, said) = subst (λ c. KeepsFormat p (format_of c) input) (sym is) tt
keeps-rules number p command input (Made size split ccf) right = absurd right

-- how an output ends: only a report on what is not regular, and a study without a solution, end otherwise
pub has-text : {T : Type 0} (output : Output T) → HasText (end_of output)
has-text (Certificate certificate) = inl refl
has-text (Layers model layers) = inl refl
has-text (Report model told) = go (leb told.equations told.rank && leb told.unknowns told.rank)
  where
    go : (b : Bool) → HasText (if b then Done else NotRegular)
    go true = inl refl
    go false = inr refl
has-text (Plan model layers plan) = inl refl
has-text (Studied studied) = studied-text studied
has-text Accepted = inl refl
has-text (Replies text) = inl refl
has-text (Made size split ccf) = inl refl

-- what a report and a study are of: else all ends well
abbrev IsReport : {T : Type 0} → ℕ → Command → List ℕ → Output T → Type 0
IsReport p command input output =
    (kind : Kind) × (field : Option FieldName) × (model : MixedModel) × (told : Told) × (command ≡ OfModel Task.Report kind field)
    × (output ≡ Report model told) × GivesModel p kind input model × IsReportOf p (mixed_matrix_of model) told

abbrev IsStudy : {T : Type 0} → (T → ℕ) → ℕ → Command → List ℕ → Output T → Type 0
IsStudy {T} number p command input output =
    (study : Study) × (kind : Kind) × (told : Study-told T) × (command ≡ OfStudy study kind) × (output ≡ Studied told)
    × IsStudiedFor number p study kind input told

abbrev IsPlain : {T : Type 0} → Command → Output T → Type 0
IsPlain command output =
    (end_of output ≡ Done) × ((kind : Kind) (field : Option FieldName) → command ≡ OfModel Task.Report kind field → ⊥)
    × ((study : Study) (kind : Kind) → command ≡ OfStudy study kind → ⊥)

plain : {T : Type 0} (command : Command) (output : Output T) → end_of output ≡ Done → (task : Command) → command ≡ task →
    ((kind : Kind) (field : Option FieldName) → task ≡ OfModel Task.Report kind field → ⊥) →
    ((study : Study) (kind : Kind) → task ≡ OfStudy study kind → ⊥) → IsPlain command output
plain command output ends task is report study =
    (ends, (λ kind field are. report kind field (sym is ∙ are)), λ told kind are. study told kind (sym is ∙ are))

told-by : {T : Type 0} (number : T → ℕ) (p : ℕ) (command : Command) (input : List ℕ) (output : Output T) →
    IsOutputFor number p command input output → IsPlain command output ⊎ (IsReport p command input output ⊎ IsStudy number p command input output)
told-by {T} number p command input (Certificate certificate) (kind, field, is, right) =
    inl (plain {T = T} command (Certificate certificate) refl _ is (λ other named are. absurd cc) (λ study other are. absurd cc))
told-by {T} number p command input (Layers model layers) (kind, field, is, gives, are, whole) =
    inl (plain {T = T} command (Layers model layers) refl _ is (λ other named are. absurd cc) (λ study other are. absurd cc))
told-by {T} number p command input (Report model told) (kind, field, is, gives, reports) =
    inr (inl (kind, field, model, told, is, refl, gives, reports))
told-by {T} number p command input (Plan model layers plan) (kind, field, is, right) =
    inl (plain {T = T} command (Plan model layers plan) refl _ is (λ other named are. absurd cc) (λ study other are. absurd cc))
told-by {T} number p command input (Studied studied) (study, kind, is, right) = inr (inr (study, kind, studied, is, refl, right))
told-by {T} number p command input Accepted (is, accepted) =
    inl (plain {T = T} command Accepted refl _ is (λ other named are. absurd cc) (λ study other are. absurd cc))
told-by {T} number p command input (Replies text) (is, said) =
    inl (plain {T = T} command (Replies text) refl _ is (λ other named are. absurd cc) (λ study other are. absurd cc))
told-by {T} number p command input (Made size split ccf) right = absurd right

-- two reports on one model end alike
same-kind : (kind other : Kind) (field named : Option FieldName) → OfModel Task.Report kind field ≡ OfModel Task.Report other named → kind ≡ other
same-kind kind other field named is = cc

one-greatest : (p : ℕ) (M : MixedMatrix) (r s : ℕ) → IsStructuralRank p M r → IsStructuralRank p M s → r ≡ s
one-greatest p M r s one two = omega (arith, two.greatest one.reached.0 r one.reached.1, one.greatest two.reached.0 s two.reached.1)

one-rank : (p : ℕ) (M : MixedMatrix) (a b : Told) → IsReportOf p M a → IsReportOf p M b →
    end_of_rank a.equations a.unknowns a.rank ≡ end_of_rank b.equations b.unknowns b.rank
one-rank p M a b one two =
    ap (λ n. end_of_rank n a.unknowns a.rank) (one.equations ∙ sym two.equations)
    ∙ ap (λ n. end_of_rank b.equations n a.rank) (one.unknowns ∙ sym two.unknowns)
    ∙ ap (end_of_rank b.equations b.unknowns) (one-greatest p M a.rank b.rank one.rank two.rank)

one-report : {T U : Type 0} (p : ℕ) (command : Command) (input : List ℕ) (a : Output T) (b : Output U) → IsReport p command input a →
    IsReport p command input b → end_of a ≡ end_of b
one-report p command input a b (kind, field, model, told, of, is, gives, reports) (other_kind, named, other_model, other_told, others, are, given, reporting) =
    let kinds : other_kind ≡ kind = same-kind other_kind kind named field (sym others ∙ of) in
    let also : GivesModel p kind input other_model = subst (λ k. GivesModel p k input other_model) kinds given in
    let models : other_model ≡ model = gives-one p kind input other_model model also gives in
    ap end_of is
    ∙ one-rank p (mixed_matrix_of model) told other_told reports (subst (λ m. IsReportOf p (mixed_matrix_of m) other_told) models reporting)
    ∙ sym (ap end_of are)

-- and two studies of one input
one-study : {T U : Type 0} (number : T → ℕ) (numbered : U → ℕ) (p : ℕ) (command : Command) (input : List ℕ) (a : Output T) (b : Output U) →
    IsStudy number p command input a → IsStudy numbered p command input b → end_of a ≡ end_of b
one-study number numbered p command input a b (study, kind, told, of, is, right) (other, another, tells, others, are, also) =
    let same : OfStudy other another ≡ OfStudy study kind = sym others ∙ of in
    let studies : other ≡ study = cc in
    let kinds : another ≡ kind = cc in
    ap end_of is
    ∙ studied-alike number numbered p study kind input told tells right
    (subst (λ s. IsStudiedFor numbered p s kind input tells) studies (subst (λ k. IsStudiedFor numbered p other k input tells) kinds also))
    ∙ sym (ap end_of are)

-- an input has one end
pub one-status : {T U : Type 0} (number : T → ℕ) (numbered : U → ℕ) (p : ℕ) (command : Command) (input : List ℕ) (a : Output T) (b : Output U) →
    IsOutputFor number p command input a → IsOutputFor numbered p command input b → end_of a ≡ end_of b
one-status number numbered p command input a b right other =
    go (told-by number p command input a right) (told-by numbered p command input b other)
  where
    report-study : IsReport p command input a → IsStudy numbered p command input b → end_of a ≡ end_of b
    report-study report study = let both = sym report.4 ∙ study.3 in absurd cc

    study-report : IsStudy number p command input a → IsReport p command input b → end_of a ≡ end_of b
    study-report study report = let both = sym report.4 ∙ study.3 in absurd cc

    go : IsPlain command a ⊎ (IsReport p command input a ⊎ IsStudy number p command input a) →
        IsPlain command b ⊎ (IsReport p command input b ⊎ IsStudy numbered p command input b) → end_of a ≡ end_of b
    go (inl one) (inl two) = one.0 ∙ sym two.0
    go (inl one) (inr (inl report)) = absurd (one.1 report.0 report.1 report.4)
    go (inl one) (inr (inr study)) = absurd (one.2 study.0 study.1 study.3)
    go (inr (inl report)) (inl two) = absurd (two.1 report.0 report.1 report.4)
    go (inr (inr study)) (inl two) = absurd (two.2 study.0 study.1 study.3)
    go (inr (inl report)) (inr (inl reports)) = one-report p command input a b report reports
    go (inr (inr study)) (inr (inr studies)) = one-study number numbered p command input a b study studies
    go (inr (inl report)) (inr (inr study)) = report-study report study
    go (inr (inr study)) (inr (inl report)) = study-report study report
