-- Each input of a study that keeps each rule is studied.
use Rattle.std.proofs.Common.{◌<◌, ℕ, ◌⊎◌, List, length, ap, refl, ◌∙◌, inl, inr}
use Rattle.std.proofs.lemmas.List.{length-map}
use Rattle.refusals.specs.declared.Refused.{Refused as Refusal}
use Rattle.residue_theory.specs.Residues.{IsPrime}
use Rattle.cert_text.specs.declared.kind.Kind.{Kind}
use Rattle.command_line.specs.declared.command.Study.{Study}
use Rattle.command_line.specs.declared.command.Study.TheVariants as studies
use Rattle.cheapest_repairs.proofs.ProblemCosts.{problem-costs}
use Rattle.existence_laws.specs.Layerings.{HasLayers}
use Rattle.existence_laws.proofs.Layering.{has-layers}
use Rattle.input_kinds.specs.Kinds.{GivesModel}
use Rattle.input_kinds.proofs.ByKind.{answered, is-model}
use Rattle.input_problems.proofs.ProblemLaws.{text-answered}
use Rattle.mixed_model.specs.Models.{IsModel, MixedModel, mixed_matrix_of}
use Rattle.problem_heads.specs.HeadNumbers.{numbers_of_head}
use Rattle.problem_heads.specs.Heads.{model_text}
use Rattle.problem_heads.specs.HeadsRead.{HasHead}
use Rattle.problem_heads.specs.Problems.{IsRepairProblem, IsSolveProblem}
use Rattle.problem_heads.specs.declared.form.Form.TheVariants as forms
use Rattle.run_ends.specs.declared.status.Status.TheVariants.{Refused}
use Rattle.study_existence_laws.proofs.Clashing.{has-conflicts}
use Rattle.study_existence_laws.proofs.Repaired.{has-repair}
use Rattle.study_existence_laws.proofs.SolvedProblems.{has-solving}
use Rattle.study_existence_laws.proofs.Valued.{has-values}
use Rattle.study_outputs.specs.StudyInputs.{IsStudyFault}
use Rattle.study_outputs.specs.StudyOutputs.{IsStudiedFor}
use Rattle.study_outputs.specs.declared.studied.Studied.{Studied}
use Rattle.study_outputs.specs.declared.studied.Studied.TheVariants.{Conflicts, Repaired, Solved, Values}

-- what a study tells of the input, or the first rule that the input breaks
abbrev IsStudied : ℕ → Study → Kind → List ℕ → Type 0
IsStudied p study kind input = (studied : Studied ℕ) × IsStudiedFor (λ value. value) p study kind input studied

abbrev IsRefused : ℕ → Study → Kind → List ℕ → Type 0
IsRefused p study kind input = (refused : Refusal) × IsStudyFault p study kind input (Refused refused)

module _ (p : ℕ) (prime : IsPrime p) (odd : 2 < p) (kind : Kind) (input : List ℕ) where
  valued : (model : MixedModel) → GivesModel p kind input model → IsStudied p studies.Values kind input
  valued model gives =
      let values = has-values p prime (mixed_matrix_of model) in (Values model values.told, (refl, gives, values.are))

  clashing : (model : MixedModel) → GivesModel p kind input model → IsStudied p studies.Conflict kind input
  clashing model gives =
      let clash = has-conflicts p prime odd (mixed_matrix_of model) in (Conflicts model clash.conflicts, (refl, gives, clash.are))

  solved : HasHead p forms.Solve input → (model : MixedModel) → GivesModel p kind (model_text input) model → (values right : List ℕ) →
      IsSolveProblem (numbers_of_head p forms.Solve input) model values right → IsStudied p studies.Solve kind input
  solved head model gives values right problem =
      let is : IsModel p model = is-model p kind (model_text input) model gives in
      let layers : HasLayers model = has-layers p model is in
      let many = ap length problem.right_is ∙ length-map model.equations _ in
      let solving = has-solving p prime odd model is layers.layers layers.are values right problem.count many in (
        Solved model layers.layers solving.solving,
        (
          refl,
          record {
            head = head;
            gives = gives;
            values = values;
            right = right;
            problem = problem;
            are = layers.are;
            whole = layers.whole;
            solves = solving.is;
          },
        ),
      )

  repaired : HasHead p forms.Repair input → (model : MixedModel) → GivesModel p kind (model_text input) model → (costs : List ℕ) →
      IsRepairProblem (numbers_of_head p forms.Repair input) model costs → IsStudied p studies.Repair kind input
  repaired head model gives costs problem =
      let is : IsModel p model = is-model p kind (model_text input) model gives in
      let mended = has-repair p prime odd model is costs (problem-costs p input model costs problem) in
      (Repaired model costs mended.repair, (refl, record { head = head; gives = gives; problem = problem; shown = mended.is }))

  pub studied : (study : Study) → IsStudied p study kind input ⊎ IsRefused p study kind input
  studied studies.Values = elim (answered p prime odd kind input) [
    | inl given ↦ inl (valued given.0 given.1)
    | inr refused ↦ inr refused
  ]
  studied studies.Solve = elim (text-answered p kind forms.Solve input prime odd) [
    | inl given ↦ inl (solved given.0 given.1.0 given.1.1 given.1.2.0 given.1.2.1 given.1.2.2)
    | inr refused ↦ inr refused
  ]
  studied studies.Repair = elim (text-answered p kind forms.Repair input prime odd) [
    | inl given ↦ inl (repaired given.0 given.1.0 given.1.1 given.1.2.0 given.1.2.1)
    | inr refused ↦ inr refused
  ]
  studied studies.Conflict = elim (answered p prime odd kind input) [
    | inl given ↦ inl (clashing given.0 given.1)
    | inr refused ↦ inr refused
  ]
