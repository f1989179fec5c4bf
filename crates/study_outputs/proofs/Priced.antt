-- A problem of costs, and a cheapest repair by them.
use Rattle.std.proofs.Common.{◌≡◌, ℕ, List}
use Rattle.cert_text.specs.declared.kind.Kind.{Kind}
use Rattle.cheapest_repairs.proofs.ProblemCosts.{problem-costs}
use Rattle.input_problems.specs.ProblemTexts.{GivesProblem}
use Rattle.mixed_model.specs.Models.{MixedModel}
use Rattle.problem_heads.specs.declared.form.Form.TheVariants as forms
use Rattle.problem_heads.specs.declared.problem.Problem.{Problem}
use Rattle.problem_heads.specs.declared.problem.Problem.TheVariants.{Repair, Solve}
use Rattle.study_outputs.specs.Problems.{IsPriced}

pub priced : {T : Type 0} (number : T → ℕ) (p : ℕ) (kind : Kind) (text : List ℕ) (model : MixedModel) (problem : Problem T) →
    GivesProblem number p kind forms.Repair text model problem → IsPriced model problem
priced number p kind text model (Repair costs) gives = problem-costs p text model costs.items gives.problem_is.1
priced number p kind text model (Solve values right) gives = let f : forms.Repair ≡ forms.Solve = gives.problem_is.0 in absurd cc
