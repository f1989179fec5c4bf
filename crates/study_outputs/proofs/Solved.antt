-- A problem of values and right sides, and how it is solved.
use Rattle.std.proofs.Common.{◌≡◌, ℕ, List, length, map, ap, sym, ◌∙◌}
use Rattle.std.proofs.lemmas.List.{length-map}
use Rattle.answer_texts.specs.WholeLayers.{AreWholeLayers}
use Rattle.cert_text.specs.declared.kind.Kind.{Kind}
use Rattle.input_problems.specs.ProblemTexts.{GivesProblem}
use Rattle.mixed_layering.specs.Layers.{AreLayersOf}
use Rattle.mixed_model.specs.Layers.{Layers}
use Rattle.mixed_model.specs.Models.{MixedModel}
use Rattle.problem_heads.specs.declared.form.Form.TheVariants as forms
use Rattle.problem_heads.specs.declared.problem.Problem.{Problem}
use Rattle.problem_heads.specs.declared.problem.Problem.TheVariants.{Repair, Solve}
use Rattle.study_answers.specs.declared.solving.Solving.{Solving}
use Rattle.study_outputs.specs.Problems.{IsSolvable, IsSolvingOfProblem}
use Rattle.study_outputs.specs.StudyOutputs.{IsSolvedFor}

module _ {T : Type 0} (number : T → ℕ) (p : ℕ) (kind : Kind) (text : List ℕ) (model : MixedModel) where
  pub solvable : (problem : Problem T) → GivesProblem number p kind forms.Solve text model problem → IsSolvable model problem
  solvable (Solve values right) gives = (
    sym (length-map values.items number) ∙ gives.problem_is.1.count,
    sym (length-map right.items number) ∙ ap length gives.problem_is.1.right_is ∙ length-map model.equations _,
  )
  solvable (Repair costs) gives = let f : forms.Solve ≡ forms.Repair = gives.problem_is.0 in absurd cc

  pub solved-for : (layers : Layers) (problem : Problem T) (solving : Solving T) → AreLayersOf model layers → AreWholeLayers layers →
      IsSolvingOfProblem number p model layers problem solving → GivesProblem number p kind forms.Solve text model problem →
      IsSolvedFor number p kind text model layers solving
  solved-for layers (Solve values right) solving are whole solves gives = record {
    head = gives.head;
    gives = gives.model_is;
    values = map number values.items;
    right = map number right.items;
    problem = gives.problem_is.1;
    are = are;
    whole = whole;
    solves = solves;
  }
  solved-for layers (Repair costs) solving are whole solves gives = absurd solves
