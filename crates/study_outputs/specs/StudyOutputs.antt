-- What a study writes of an input.
use Rattle.std.specs.Prelude.{ℕ, ◌≡◌, ◌≤◌, Bool, cond, ltb, List, length}
use Rattle.std.specs.List.{All}
use Rattle.std.specs.List.Sorted.{IsStrictlyIncreasing}
use Rattle.cheapest_repairs.specs.ShownRepairs.{IsShownRepair}
use Rattle.cert_text.specs.declared.kind.Kind.{Kind}
use Rattle.command_line.specs.declared.command.Study.{Study}
use Rattle.command_line.specs.declared.command.Study.TheVariants as studies
use Rattle.mixed_layering.specs.Layers.{AreLayersOf}
use Rattle.mixed_model.specs.Layers.{Layers}
use Rattle.mixed_model.specs.Models.{MixedModel, mixed_matrix_of}
use Rattle.answer_texts.specs.WholeLayers.{AreWholeLayers}
use Rattle.input_kinds.specs.Kinds.{GivesModel}
use Rattle.problem_heads.specs.HeadNumbers.{numbers_of_head}
use Rattle.problem_heads.specs.Heads.{model_text}
use Rattle.problem_heads.specs.HeadsRead.{HasHead}
use Rattle.problem_heads.specs.Problems.{IsRepairProblem, IsSolveProblem}
use Rattle.problem_heads.specs.declared.form.Form.TheVariants as forms
use Rattle.repair_checker.specs.declared.repair.Repair.{Repair}
use Rattle.repair_texts.specs.RepairTexts.{repair_text}
use Rattle.study_answers.specs.Conflicts.{AreConflictsOf}
use Rattle.study_answers.specs.Solvings.{IsSolvingBy, is_solution}
use Rattle.study_answers.specs.Values.{AreValuesOf}
use Rattle.study_answers.specs.declared.solving.Solving.{Solving}
use Rattle.study_texts.specs.ConflictTexts.{IsConflictIn, conflicts_text}
use Rattle.study_texts.specs.SolutionTexts.{IsSolvingIn, solving_text}
use Rattle.study_texts.specs.ValueTexts.{IsPlaceIn, values_text}
use Rattle.run_ends.specs.declared.status.Status.{Status}
use Rattle.run_ends.specs.declared.status.Status.TheVariants.{Done, NotRegular}
use Rattle.study_outputs.specs.declared.studied.Studied.{Studied}
use Rattle.study_outputs.specs.declared.studied.Studied.TheVariants.{Conflicts, Repaired, Solved, Values}

-- its text, each value seen by its number
abbrev pub studied_text : {T : Type 0} → (T → ℕ) → Studied T → List ℕ
studied_text number (Values model told) = values_text number model told
studied_text number (Solved model layers solving) = solving_text number model layers solving
studied_text number (Repaired model costs repair) = repair_text model costs repair
studied_text number (Conflicts model conflicts) = conflicts_text model conflicts

-- a repair drops some equation: fewer are kept than there are
abbrev pub drops_some : {T : Type 0} → MixedModel → Repair T → Bool
drops_some model repair = ltb (length repair.kept) (length model.equations)

-- how a run ends that writes it: what has no solution is told apart, and what needs no repair
abbrev pub end_of_studied : {T : Type 0} → Studied T → Status
end_of_studied (Values model told) = Done
end_of_studied (Solved model layers solving) = cond (is_solution solving) Done NotRegular
end_of_studied (Repaired model costs repair) = cond (drops_some model repair) Done NotRegular
end_of_studied (Conflicts model conflicts) = Done

-- over the residues modulo p, of which each value is seen by its number: the head of the input and the model behind it,
-- which is of this kind, say a problem of values and right sides; these are the whole layers of the model, and what
-- solving it so tells
pub record IsSolvedFor {T : Type 0} (number : T → ℕ) (p : ℕ) (kind : Kind) (input : List ℕ) (model : MixedModel)
    (layers : Layers) (solving : Solving T) : Type 0 where
  pub head : HasHead p forms.Solve input
  pub gives : GivesModel p kind (model_text input) model
  pub values : List ℕ
  pub right : List ℕ
  pub problem : IsSolveProblem (numbers_of_head p forms.Solve input) model values right
  pub are : AreLayersOf model layers
  pub whole : AreWholeLayers layers
  pub solves : IsSolvingBy number p model layers values right solving

-- over the residues modulo p: the head of the input and the model behind it, which is of this kind, say a problem of
-- these costs; and this is a cheapest repair by them
pub record IsRepairedFor {T : Type 0} (p : ℕ) (kind : Kind) (input : List ℕ) (model : MixedModel) (costs : List ℕ)
    (repair : Repair T) : Type 0 where
  pub head : HasHead p forms.Repair input
  pub gives : GivesModel p kind (model_text input) model
  pub problem : IsRepairProblem (numbers_of_head p forms.Repair input) model costs
  pub shown : IsShownRepair p model costs repair

-- `values` gives the model that the input gives, with the first values that reach its rank; `solve` what solving the
-- problem in the input tells; `repair` a cheapest repair by the costs in the input; `conflict` the model that the
-- input gives, with the conflict sets of its surplus equations
abbrev pub IsStudiedFor : {T : Type 0} → (T → ℕ) → ℕ → Study → Kind → List ℕ → Studied T → Type 0
IsStudiedFor number p study kind input (Values model told) =
    (study ≡ studies.Values) × GivesModel p kind input model × AreValuesOf number p (mixed_matrix_of model) told
IsStudiedFor number p study kind input (Solved model layers solving) =
    (study ≡ studies.Solve) × IsSolvedFor number p kind input model layers solving
IsStudiedFor number p study kind input (Repaired model costs repair) =
    (study ≡ studies.Repair) × IsRepairedFor p kind input model costs repair
IsStudiedFor number p study kind input (Conflicts model conflicts) =
    (study ≡ studies.Conflict) × GivesModel p kind input model × AreConflictsOf p (mixed_matrix_of model) conflicts

-- what it names is there
abbrev pub IsStudiedIn : {T : Type 0} → Studied T → Type 0
IsStudiedIn (Values model told) = All (λ at. IsPlaceIn model at.place) told.values
IsStudiedIn (Solved model layers solving) = AreLayersOf model layers × IsSolvingIn model layers solving
IsStudiedIn (Repaired model costs repair) = (length costs ≤ length model.equations) × IsStrictlyIncreasing repair.kept
IsStudiedIn (Conflicts model conflicts) = All (IsConflictIn (length model.equations)) conflicts
