-- A problem that is read, step by step.
use Rattle.std.proofs.Common.{◌≡◌, ℕ, ◌≤◌, ◌-◌, List, length, take, drop, sym, ap, subst, ◌∙◌, inl, inr}
use Rattle.std.proofs.lemmas.List.{take_rest}
use Rattle.limits.specs.Limits.{input_limit}
use Rattle.refusals.specs.declared.ReadModel.{ReadModel}
use Rattle.refusals.specs.declared.ReadModel.TheVariants.{Refused as Refusal, NoMemory}
use Rattle.cert_text.specs.declared.kind.Kind.{Kind}
use Rattle.mixed_model.specs.Models.{MixedModel}
use Rattle.input_kinds.specs.Kinds.{GivesModel, IsRefused, IsWhyUnread}
use Rattle.problem_heads.specs.Heads.{head_of, lines_before, model_text}
use Rattle.problem_heads.specs.HeadsRead.{HasHead, HeadView, IsWhyNoHead, view_of_text}
use Rattle.problem_heads.specs.LinesBefore.{refused_behind}
use Rattle.problem_heads.specs.Misfits.{IsWhyNoProblem}
use Rattle.problem_heads.specs.Problems.{IsProblemBy}
use Rattle.problem_heads.specs.declared.form.Form.{Form}
use Rattle.problem_heads.specs.declared.problem.Problem.{Problem}
use Rattle.problem_heads.proofs.Parting.{model-drop}
use Rattle.input_problems.specs.ProblemTexts.{FitsBehind, GivesProblem, IsWhyNoProblemOf, IsWhyNoneBehind, why_behind}
use Rattle.input_problems.proofs.LinesWithin.{counted-fits}

-- what is read behind the head
pub rest-is_model : (text : List ℕ) (start : ℕ) → start ≡ length (head_of text) → take (length text - start) (drop start text) ≡ model_text text
rest-is_model text start start_is =
    take_rest text start ∙ ap (λ n. drop n text) start_is ∙ model-drop text

module _ (p : ℕ) (kind : Kind) (text part : List ℕ) (part_is : part ≡ model_text text) where
  pub gives-behind : (model : MixedModel) → GivesModel p kind part model → GivesModel p kind (model_text text) model
  gives-behind model gives = subst (λ rest. GivesModel p kind rest model) part_is gives

  pub fits-behind : (why : ReadModel) (lines : ℕ) → length text ≤ input_limit → lines ≡ lines_before text → IsWhyUnread p kind part why →
      FitsBehind lines why
  fits-behind (Refusal refused) lines short lines_are is =
      subst (λ n. FitsBehind n (Refusal refused)) (sym lines_are)
      (counted-fits p kind text refused short (subst (λ rest. IsRefused p kind rest refused) part_is is))
  fits-behind NoMemory lines short lines_are is = tt

  pub unread-behind : (why : ReadModel) (lines : ℕ) → lines ≡ lines_before text → IsWhyUnread p kind part why →
      IsWhyNoneBehind p kind text (why_behind lines why)
  unread-behind (Refusal refused) lines lines_are is =
      (refused, subst (λ rest. IsRefused p kind rest refused) part_is is, ap (λ n. refused_behind n refused) lines_are)
  unread-behind NoMemory lines lines_are is = tt

module _ (p : ℕ) (kind : Kind) (form : Form) (text : List ℕ) where
  pub no-head : (why : ReadModel) → IsWhyNoHead p form text why → IsWhyNoProblemOf p kind form text why
  no-head (Refusal refused) is = inl is
  no-head NoMemory is = tt

  pub none-behind : (why : ReadModel) → HasHead p form text → IsWhyNoneBehind p kind text why → IsWhyNoProblemOf p kind form text why
  none-behind (Refusal refused) head is = inr (head, inl is)
  none-behind NoMemory head is = tt

  module _ (view : HeadView) (view_is : view ≡ view_of_text p form text) (head : HasHead p form text) (model : MixedModel)
      (gives : GivesModel p kind (model_text text) model) where
    pub no-problem : (why : ReadModel) → IsWhyNoProblem view.form view.numbers model why → IsWhyNoProblemOf p kind form text why
    no-problem (Refusal refused) is =
        inr (head, inr (model, gives, subst (λ (view : HeadView). IsWhyNoProblem view.form view.numbers model (Refusal refused)) view_is is))
    no-problem NoMemory is = tt

    pub problem-given : {F : Type 0} (number : F → ℕ) (problem : Problem F) → IsProblemBy number view.form view.numbers model problem →
        GivesProblem number p kind form text model problem
    problem-given number problem is = record {
      head = head;
      model_is = gives;
      problem_is = subst (λ (view : HeadView). IsProblemBy number view.form view.numbers model problem) view_is is;
    }
