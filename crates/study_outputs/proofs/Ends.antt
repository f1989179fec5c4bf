-- An input of a study has one end.
use Rattle.std.proofs.Common.{◌≡◌, ℕ, Bool, true, false, cond, ltb, List, length, refl, ap, sym, subst, ◌∙◌, inl, inr}
use Rattle.refusals.specs.declared.Refused.{Refused as Refusal}
use Rattle.cert_text.specs.declared.kind.Kind.{Kind}
use Rattle.command_line.specs.declared.command.Study.{Study}
use Rattle.command_line.specs.declared.command.Study.TheVariants as studies
use Rattle.cheapest_repairs.specs.ShownRepairs.{AreKept}
use Rattle.cheapest_repairs.proofs.KeptLists.{kept-one}
use Rattle.input_kinds.proofs.ByKind.{gives-one}
use Rattle.input_kinds.proofs.OneStatus.{given-no-refusal, one-refusal}
use Rattle.input_problems.specs.ProblemTexts.{HasProblemText, IsProblemRefused}
use Rattle.input_problems.proofs.ProblemLaws.{had-unrefused, text-refused_once}
use Rattle.mixed_model.specs.Models.{MixedModel}
use Rattle.problem_heads.specs.HeadNumbers.{numbers_of_head}
use Rattle.problem_heads.specs.Heads.{model_text}
use Rattle.problem_heads.specs.Problems.{IsRepairProblem, IsSolveProblem}
use Rattle.problem_heads.specs.declared.form.Form.{Form}
use Rattle.problem_heads.specs.declared.form.Form.TheVariants as forms
use Rattle.problem_heads.proofs.ProblemsOnce.{solve-once}
use Rattle.repair_checker.specs.declared.repair.Repair.{Repair}
use Rattle.study_answers.specs.Solvings.{IsSolvingBy, is_solution}
use Rattle.study_answers.specs.declared.solving.Solving.{Solving}
use Rattle.study_answers.proofs.OneEnd.{ends-alike}
use Rattle.mixed_model.specs.Layers.{Layers}
use Rattle.run_ends.specs.Ways.{HasText}
use Rattle.run_ends.specs.declared.status.Status.{Status}
use Rattle.run_ends.specs.declared.status.Status.TheVariants.{BadCertificate, Done, Memory, NotRegular, ReadFault}
use Rattle.run_ends.specs.declared.status.Status.TheVariants.{Refused, Rejected, TooLong, Usage, WriteFault}
use Rattle.study_outputs.specs.StudyInputs.{IsProblemRefusedAs, IsStudyFault, KeepsStudy}
use Rattle.study_outputs.specs.StudyOutputs.{IsRepairedFor, IsSolvedFor, IsStudiedFor, drops_some, end_of_studied}
use Rattle.study_outputs.specs.declared.studied.Studied.{Studied}
use Rattle.study_outputs.specs.declared.studied.Studied.TheVariants.{Conflicts, Repaired, Solved, Values}

module _ (p : ℕ) (kind : Kind) (form : Form) (text : List ℕ) where
  refused-so : (status : Status) → IsProblemRefusedAs p kind form text status →
      (refused : Refusal) × (status ≡ Refused refused) × IsProblemRefused p kind form text refused
  refused-so Done is = absurd is
  refused-so NotRegular is = absurd is
  refused-so Usage is = absurd is
  refused-so (Refused refused) is = (refused, refl, is)
  refused-so (TooLong limit) is = absurd is
  refused-so (BadCertificate line) is = absurd is
  refused-so ReadFault is = absurd is
  refused-so WriteFault is = absurd is
  refused-so Memory is = absurd is
  refused-so (Rejected rule) is = absurd is

  one-problem-refusal : (a b : Status) → IsProblemRefusedAs p kind form text a → IsProblemRefusedAs p kind form text b → a ≡ b
  one-problem-refusal a b one two =
      let first = refused-so a one in
      let second = refused-so b two in
      first.1 ∙ ap Refused (text-refused_once p kind form text first.0 second.0 first.2 second.2) ∙ sym second.1

  had-no-refusal : {A : Type 0} (status : Status) → HasProblemText p kind form text → IsProblemRefusedAs p kind form text status → A
  had-no-refusal status has is =
      let refused = refused-so status is in absurd (had-unrefused p kind form text refused.0 has refused.2)

-- one fault
pub one-study-fault : (p : ℕ) (study : Study) (kind : Kind) (input : List ℕ) (a b : Status) → IsStudyFault p study kind input a →
    IsStudyFault p study kind input b → a ≡ b
one-study-fault p studies.Values kind input a b one two = one-refusal p kind input a b one two
one-study-fault p studies.Solve kind input a b one two = one-problem-refusal p kind forms.Solve input a b one two
one-study-fault p studies.Repair kind input a b one two = one-problem-refusal p kind forms.Repair input a b one two
one-study-fault p studies.Conflict kind input a b one two = one-refusal p kind input a b one two

-- or none
pub kept-study-unfaulty : {A : Type 0} (p : ℕ) (study : Study) (kind : Kind) (input : List ℕ) (status : Status) → KeepsStudy p study kind input →
    IsStudyFault p study kind input status → A
kept-study-unfaulty p studies.Values kind input status (model, gives) fault = given-no-refusal p kind input model status gives fault
kept-study-unfaulty p studies.Solve kind input status has fault = had-no-refusal p kind forms.Solve input status has fault
kept-study-unfaulty p studies.Repair kind input status has fault = had-no-refusal p kind forms.Repair input status has fault
kept-study-unfaulty p studies.Conflict kind input status (model, gives) fault = given-no-refusal p kind input model status gives fault

-- an input that is studied keeps each rule
pub studied-keeps : {T : Type 0} (number : T → ℕ) (p : ℕ) (study : Study) (kind : Kind) (input : List ℕ) (studied : Studied T) →
    IsStudiedFor number p study kind input studied → KeepsStudy p study kind input
studied-keeps number p study kind input (Values model told) (is, gives, are) = subst (λ s. KeepsStudy p s kind input) (sym is) (model, gives)
studied-keeps number p study kind input (Solved model layers solving) (is, solved) =
    subst (λ s. KeepsStudy p s kind input) (sym is) (solved.head, (model, solved.gives, (solved.values, solved.right, solved.problem)))
studied-keeps number p study kind input (Repaired model costs repair) (is, repaired) =
    subst (λ s. KeepsStudy p s kind input) (sym is) (repaired.head, (model, repaired.gives, (costs, repaired.problem)))
studied-keeps number p study kind input (Conflicts model conflicts) (is, gives, are) =
    subst (λ s. KeepsStudy p s kind input) (sym is) (model, gives)

-- its text is written
one-of-two : (b : Bool) → HasText (cond b Done NotRegular)
one-of-two true = inl refl
one-of-two false = inr refl

pub studied-text : {T : Type 0} (studied : Studied T) → HasText (end_of_studied studied)
studied-text (Values model told) = inl refl
studied-text (Solved model layers solving) = one-of-two (is_solution solving)
studied-text (Repaired model costs repair) = one-of-two (drops_some model repair)
studied-text (Conflicts model conflicts) = inl refl

-- two solvings of one problem end alike
solved-alike : {T U : Type 0} (number : T → ℕ) (numbered : U → ℕ) (p : ℕ) (kind : Kind) (input : List ℕ) (model other : MixedModel)
    (layers others : Layers) (a : Solving T) (b : Solving U) → IsSolvedFor number p kind input model layers a →
    IsSolvedFor numbered p kind input other others b → is_solution a ≡ is_solution b
solved-alike {T} {U} number numbered p kind input model other layers others a b one two =
    ends-alike number numbered p model one.values one.right layers others a b one.solves second
  where
    models : other ≡ model
    models = gives-one p kind (model_text input) other model two.gives one.gives

    problem : IsSolveProblem (numbers_of_head p forms.Solve input) model two.values two.right
    problem = subst (λ m. IsSolveProblem (numbers_of_head p forms.Solve input) m two.values two.right) models two.problem

    same : (two.values ≡ one.values) × (two.right ≡ one.right)
    same = solve-once (numbers_of_head p forms.Solve input) model two.values two.right one.values one.right problem one.problem

    third : IsSolvingBy numbered p model others two.values two.right b
    third = subst (λ m. IsSolvingBy numbered p m others two.values two.right b) models two.solves

    second : IsSolvingBy numbered p model others one.values one.right b
    second = subst (λ values. IsSolvingBy numbered p model others values one.right b) same.0
        (subst (λ right. IsSolvingBy numbered p model others two.values right b) same.1 third)

-- and so do two repairs by the same costs, as the same equations are kept
repaired-alike : {T U : Type 0} (p : ℕ) (kind : Kind) (input : List ℕ) (model other : MixedModel) (costs others : List ℕ)
    (a : Repair T) (b : Repair U) → IsRepairedFor p kind input model costs a → IsRepairedFor p kind input other others b →
    drops_some model a ≡ drops_some other b
repaired-alike p kind input model other costs others a b one two =
    ap (λ list. ltb (length list) (length model.equations)) same ∙ ap (λ (m : MixedModel). ltb (length b.kept) (length m.equations)) (sym models)
  where
    models : other ≡ model
    models = gives-one p kind (model_text input) other model two.gives one.gives

    problem : IsRepairProblem (numbers_of_head p forms.Repair input) model others
    problem = subst (λ m. IsRepairProblem (numbers_of_head p forms.Repair input) m others) models two.problem

    kept : AreKept p model others b.kept
    kept = subst (λ m. AreKept p m others b.kept) models two.shown.kept

    same : a.kept ≡ b.kept
    same = kept-one p model costs a.kept b.kept one.shown.kept
        (subst (λ list. AreKept p model list b.kept) (problem.costs_are ∙ sym one.problem.costs_are) kept)

-- what is told is that of the study
abbrev study-of : {T : Type 0} → Studied T → Study
study-of (Values model told) = studies.Values
study-of (Solved model layers solving) = studies.Solve
study-of (Repaired model costs repair) = studies.Repair
study-of (Conflicts model conflicts) = studies.Conflict

studied-by : {T : Type 0} (number : T → ℕ) (p : ℕ) (study : Study) (kind : Kind) (input : List ℕ) (studied : Studied T) →
    IsStudiedFor number p study kind input studied → study ≡ study-of studied
studied-by number p study kind input (Values model told) is = is.0
studied-by number p study kind input (Solved model layers solving) is = is.0
studied-by number p study kind input (Repaired model costs repair) is = is.0
studied-by number p study kind input (Conflicts model conflicts) is = is.0

pub studied-alike : {T U : Type 0} (number : T → ℕ) (numbered : U → ℕ) (p : ℕ) (study : Study) (kind : Kind) (input : List ℕ)
    (a : Studied T) (b : Studied U) → IsStudiedFor number p study kind input a → IsStudiedFor numbered p study kind input b →
    end_of_studied a ≡ end_of_studied b
studied-alike {T} {U} number numbered p study kind input a b one two =
    alike a b one two (sym (studied-by number p study kind input a one) ∙ studied-by numbered p study kind input b two)
  where
    alike : (a : Studied T) (b : Studied U) → IsStudiedFor number p study kind input a → IsStudiedFor numbered p study kind input b →
        study-of a ≡ study-of b → end_of_studied a ≡ end_of_studied b
    alike (Values model told) (Values other tells) one two same = refl
    alike (Values model told) (Solved other others solution) one two same = absurd cc
    alike (Values model told) (Repaired other others mended) one two same = absurd cc
    alike (Values model told) (Conflicts other tells) one two same = absurd cc
    alike (Solved model layers solving) (Values other tells) one two same = absurd cc
    alike (Solved model layers solving) (Solved other others solution) one two same =
        ap (λ b. cond b Done NotRegular) (solved-alike number numbered p kind input model other layers others solving solution one.1 two.1)
    alike (Solved model layers solving) (Repaired other others mended) one two same = absurd cc
    alike (Solved model layers solving) (Conflicts other tells) one two same = absurd cc
    alike (Repaired model costs repair) (Values other tells) one two same = absurd cc
    alike (Repaired model costs repair) (Solved other others solution) one two same = absurd cc
    alike (Repaired model costs repair) (Repaired other others mended) one two same =
        ap (λ b. cond b Done NotRegular) (repaired-alike p kind input model other costs others repair mended one.1 two.1)
    alike (Repaired model costs repair) (Conflicts other tells) one two same = absurd cc
    alike (Conflicts model told) (Values other tells) one two same = absurd cc
    alike (Conflicts model told) (Solved other others solution) one two same = absurd cc
    alike (Conflicts model told) (Repaired other others mended) one two same = absurd cc
    alike (Conflicts model told) (Conflicts other tells) one two same = refl
