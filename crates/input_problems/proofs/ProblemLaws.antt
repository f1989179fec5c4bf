-- A text gives one problem, or is refused for one thing.
use Rattle.std.proofs.Common.{◌≡◌, ℕ, ◌<◌, List, refl, sym, ap, subst, ◌∙◌, ◌⊎◌, inl, inr}
use Rattle.refusals.specs.declared.Refused.{Refused}
use Rattle.residue_theory.specs.Residues.{IsPrime}
use Rattle.cert_text.specs.declared.kind.Kind.{Kind}
use Rattle.mixed_model.specs.Models.{MixedModel}
use Rattle.input_kinds.specs.Kinds.{GivesModel, IsRefused}
use Rattle.input_kinds.proofs.ByKind.{answered, given-unrefused, gives-one, refused-alone}
use Rattle.problem_heads.specs.Heads.{lines_before, model_text}
use Rattle.problem_heads.specs.HeadNumbers.{numbers_of_head}
use Rattle.problem_heads.specs.HeadsRead.{HasHead, IsHeadRefused}
use Rattle.problem_heads.specs.LinesBefore.{refused_behind}
use Rattle.problem_heads.specs.Misfits.{IsMisfitBy, IsMisfitOf}
use Rattle.problem_heads.specs.Problems.{HasProblem, IsProblemOf, problem_numbers}
use Rattle.problem_heads.specs.declared.form.Form.{Form}
use Rattle.problem_heads.specs.declared.problem.Problem.{Problem}
use Rattle.problem_heads.proofs.HeadTexts.{head-answered, head-refused_once, head-unrefused}
use Rattle.problem_heads.proofs.ProblemsOnce.{misfit-once, problem-answered, problem-had, problem-once, problem-unrefused}
use Rattle.input_problems.specs.ProblemTexts.{GivesProblem, HasProblemText, IsProblemRefused, IsRefusedAtModel, IsRefusedBehind}

module _ (p : ℕ) (kind : Kind) (form : Form) (text : List ℕ) where
  pub text-answered : IsPrime p → 2 < p → HasProblemText p kind form text ⊎ ((refused : Refused) × IsProblemRefused p kind form text refused)
  text-answered prime odd = by (head-answered p form text)
    where
      last : HasHead p form text → (model : MixedModel) → GivesModel p kind (model_text text) model →
          HasProblem form (numbers_of_head p form text) model ⊎ ((refused : Refused) × IsMisfitBy form (numbers_of_head p form text) model refused) →
          HasProblemText p kind form text ⊎ ((refused : Refused) × IsProblemRefused p kind form text refused)
      last head model gives (inl has) = inl (head, (model, gives, has))
      last head model gives (inr (refused, misfit)) = inr (refused, inr (head, inr (model, gives, misfit)))

      next : HasHead p form text →
          ((model : MixedModel) × GivesModel p kind (model_text text) model) ⊎ ((own : Refused) × IsRefused p kind (model_text text) own) →
          HasProblemText p kind form text ⊎ ((refused : Refused) × IsProblemRefused p kind form text refused)
      next head (inl (model, gives)) = last head model gives (problem-answered (numbers_of_head p form text) model form)
      next head (inr (own, is)) = inr (refused_behind (lines_before text) own, inr (head, inl (own, is, refl)))

      by : HasHead p form text ⊎ ((refused : Refused) × IsHeadRefused p form text refused) →
          HasProblemText p kind form text ⊎ ((refused : Refused) × IsProblemRefused p kind form text refused)
      by (inl head) = next head (answered p prime odd kind (model_text text))
      by (inr (refused, is)) = inr (refused, inl is)

  pub had-unrefused : (refused : Refused) → HasProblemText p kind form text → IsProblemRefused p kind form text refused → ⊥
  had-unrefused refused (head, has) (inl is) = head-unrefused p form text refused head is
  had-unrefused refused (head, (model, gives, has)) (inr (also, inl (own, is, counted))) = given-unrefused p kind (model_text text) own model gives is
  had-unrefused refused (head, (model, gives, has)) (inr (also, inr (other, given, misfit))) =
      let same = gives-one p kind (model_text text) other model given gives in
      problem-unrefused (numbers_of_head p form text) model form refused has (subst (λ model. IsMisfitOf p form text model refused) same misfit)

  module _ {F : Type 0} (number : F → ℕ) where
    pub model-once : (a b : MixedModel) (problem other : Problem F) → GivesProblem number p kind form text a problem →
        GivesProblem number p kind form text b other → a ≡ b
    model-once a b problem other first second = gives-one p kind (model_text text) a b first.model_is second.model_is

    pub text-problem_once : (a b : MixedModel) (problem other : Problem F) → GivesProblem number p kind form text a problem →
        GivesProblem number p kind form text b other → problem_numbers number problem ≡ problem_numbers number other
    text-problem_once a b problem other first second =
        let same = model-once a b problem other first second in
        problem-once (numbers_of_head p form text) b number form problem other
        (subst (λ model. IsProblemOf number p form text model problem) same first.problem_is) second.problem_is

    pub text-unrefused : (model : MixedModel) (problem : Problem F) (refused : Refused) → GivesProblem number p kind form text model problem →
        IsProblemRefused p kind form text refused → ⊥
    text-unrefused model problem refused gives is =
        had-unrefused refused (gives.head, (model, gives.model_is, problem-had (numbers_of_head p form text) model number form problem gives.problem_is)) is

  behind-once : (refused other : Refused) → IsRefusedBehind p kind text refused ⊎ IsRefusedAtModel p kind form text refused →
      IsRefusedBehind p kind text other ⊎ IsRefusedAtModel p kind form text other → refused ≡ other
  behind-once refused other (inl (a, is_a, counted_a)) (inl (b, is_b, counted_b)) =
      counted_a ∙ ap (refused_behind (lines_before text)) (refused-alone p kind (model_text text) a b is_a is_b) ∙ sym counted_b
  behind-once refused other (inl (a, is_a, counted_a)) (inr (model, gives, misfit)) =
      absurd (given-unrefused p kind (model_text text) a model gives is_a)
  behind-once refused other (inr (model, gives, misfit)) (inl (b, is_b, counted_b)) =
      absurd (given-unrefused p kind (model_text text) b model gives is_b)
  behind-once refused other (inr (a, gives_a, misfit)) (inr (b, gives_b, also)) =
      let same = gives-one p kind (model_text text) a b gives_a gives_b in
      misfit-once (numbers_of_head p form text) b form refused other (subst (λ model. IsMisfitOf p form text model refused) same misfit) also

  pub text-refused_once : (refused other : Refused) → IsProblemRefused p kind form text refused → IsProblemRefused p kind form text other →
      refused ≡ other
  text-refused_once refused other (inl is) (inl also) = head-refused_once p form text refused other is also
  text-refused_once refused other (inl is) (inr (head, also)) = absurd (head-unrefused p form text refused head is)
  text-refused_once refused other (inr (head, is)) (inl also) = absurd (head-unrefused p form text other head also)
  text-refused_once refused other (inr (head, is)) (inr (head_also, also)) = behind-once refused other is also
