-- A head says one problem of a model, or does not fit it for one reason.
use Rattle.std.proofs.Common.{◌≡◌, ℕ, zero, suc, ◌+◌, ◌<◌, ◌≤◌, List, [], ◌∷◌, ◌++◌, length, map, Option, Some, None}
use Rattle.std.proofs.Common.{refl, sym, ap, subst, ◌∙◌, arith, inl, inr, ◌⊎◌}
use Rattle.std.proofs.lemmas.Option.{get_or_from_slice_get}
use Rattle.residue_theory.proofs.SetLaws.{lt_cases}
use Rattle.refusals.specs.declared.Place.TheVariants.{Document, Line}
use Rattle.refusals.specs.declared.Refused.{Refused}
use Rattle.refusals.specs.declared.Why.TheVariants.{Missing, TooMany, Undeclared}
use Rattle.mixed_matrices.specs.Models.{MixedMatrix}
use Rattle.mixed_model.specs.Models.{MixedModel, mixed_matrix_of}
use Rattle.value_list_laws.specs.ListedValues.{symbol_count, symbols_before, values_of}
use Rattle.symbol_places.proofs.PlaceNumbers.{HasNumber, numbered}
use Rattle.problem_heads.specs.HeadNumbers.{HeadNumber, number_for}
use Rattle.problem_heads.specs.Misfits.{IsMisfitBy, LacksValue}
use Rattle.problem_heads.specs.Problems.{AreGivenValues, HasProblem, IsProblemBy, IsRepairProblem, IsSolveProblem}
use Rattle.problem_heads.specs.Problems.{different, first_undeclared, level_limit, place_names, problem_numbers, sides_of}
use Rattle.problem_heads.specs.declared.form.Form.{Form}
use Rattle.problem_heads.specs.declared.form.Form.TheVariants as forms
use Rattle.problem_heads.specs.declared.problem.Problem.{Problem}
use Rattle.problem_heads.specs.declared.problem.Problem.TheVariants.{Repair, Solve}
use Rattle.problem_heads.proofs.SymbolNumbers.{lists-same}
use Rattle.problem_heads.proofs.ValueSteps.{AreFirstValues, values-all, values-next, values-start}

module _ (numbers : List (HeadNumber ℕ)) (model : MixedModel) where
  abbrev M : MixedMatrix
  M = mixed_matrix_of model

  -- the values of the first symbols, or one of them that has none
  values-built : (h : ℕ) → h ≤ symbol_count M → ((values : List ℕ) × AreFirstValues numbers model h values) ⊎ LacksValue numbers model
  values-built zero low = inl ([], values-start numbers model)
  values-built (suc h) low = by (values-built h (omega (arith, low))) (numbered M h (omega (arith, low)))
    where
      next : (values : List ℕ) → AreFirstValues numbers model h values → (N : HasNumber M h) → (o : Option ℕ) →
          number_for numbers (place_names model N.i N.j) ≡ o → ((more : List ℕ) × AreFirstValues numbers model (suc h) more) ⊎ LacksValue numbers model
      next values are N (Some value) f =
          let e : h + 1 ≡ suc h = omega arith in
          inl (
            values ++ value ∷ [],
            subst (λ n. AreFirstValues numbers model n (values ++ value ∷ [])) e
                (values-next numbers model h N.i N.j values value N.at N.is f are),
          )
      next values are N None f = inr (N.i, N.j, N.at, f)

      by : ((values : List ℕ) × AreFirstValues numbers model h values) ⊎ LacksValue numbers model → HasNumber M h →
          ((values : List ℕ) × AreFirstValues numbers model (suc h) values) ⊎ LacksValue numbers model
      by (inl (values, are)) N = next values are N (number_for numbers (place_names model N.i N.j)) refl
      by (inr lacks) N = inr lacks

  solved : (values : List ℕ) → AreGivenValues numbers model values → first_undeclared model numbers ≡ None →
      IsSolveProblem numbers model values (sides_of numbers 0 model.equations)
  solved values are declared = record {
    declared = declared;
    count = are.count;
    values_are = λ i j at.
        let (value, given, there) = are.each i j at in given ∙ ap Some (sym (get_or_from_slice_get values (symbols_before M i j) value 0 there));
    right_is = refl;
  }

  -- a head has a problem, or does not fit
  pub problem-answered : (form : Form) → HasProblem form numbers model ⊎ ((refused : Refused) × IsMisfitBy form numbers model refused)
  problem-answered forms.Solve = by (first_undeclared model numbers) refl (values-built (symbol_count M) (omega arith))
    where
      by : (o : Option (HeadNumber ℕ)) → first_undeclared model numbers ≡ o →
          ((values : List ℕ) × AreFirstValues numbers model (symbol_count M) values) ⊎ LacksValue numbers model →
          HasProblem forms.Solve numbers model ⊎ ((refused : Refused) × IsMisfitBy forms.Solve numbers model refused)
      by (Some given) e built = inr (record { place = Line given.line; why = Undeclared }, inl (given, e, refl))
      by None e (inl (values, are)) =
          inl (values, sides_of numbers 0 model.equations, solved values (values-all numbers model (symbol_count M) values refl are) e)
      by None e (inr lacks) = inr (record { place = Document; why = Missing }, inr (e, (refl, lacks)))
  problem-answered forms.Repair = by (first_undeclared model numbers) refl (lt_cases level_limit (length (different costs)))
    where
      costs : List ℕ
      costs = sides_of numbers 1 model.equations

      by : (o : Option (HeadNumber ℕ)) → first_undeclared model numbers ≡ o →
          (level_limit < length (different (sides_of numbers 1 model.equations)))
          ⊎ (length (different (sides_of numbers 1 model.equations)) ≤ level_limit) →
          HasProblem forms.Repair numbers model ⊎ ((refused : Refused) × IsMisfitBy forms.Repair numbers model refused)
      by (Some given) e many = inr (record { place = Line given.line; why = Undeclared }, inl (given, e, refl))
      by None e (inl many) = inr (record { place = Document; why = TooMany }, inr (e, (refl, many)))
      by None e (inr few) = inl (sides_of numbers 1 model.equations, record { declared = e; costs_are = refl; few = few })

  -- and not both
  solve-unrefused : (values right : List ℕ) (refused : Refused) → IsSolveProblem numbers model values right →
      IsMisfitBy forms.Solve numbers model refused → ⊥
  solve-unrefused values right refused is (inl (given, first, line)) = let both : None ≡ Some given = sym is.declared ∙ first in cc
  solve-unrefused values right refused is (inr (declared, (why, (i, j, at, none)))) =
      let both : None ≡ Some (values_of M values i j) = sym none ∙ is.values_are i j at in cc

  repair-unrefused : (costs : List ℕ) (refused : Refused) → IsRepairProblem numbers model costs → IsMisfitBy forms.Repair numbers model refused → ⊥
  repair-unrefused costs refused is (inl (given, first, line)) = let both : None ≡ Some given = sym is.declared ∙ first in cc
  repair-unrefused costs refused is (inr (declared, (why, many))) =
      omega (arith, many, is.few, ap (λ all. length (different all)) is.costs_are)

  pub problem-unrefused : (form : Form) (refused : Refused) → HasProblem form numbers model → IsMisfitBy form numbers model refused → ⊥
  problem-unrefused forms.Solve refused (values, right, is) misfit = solve-unrefused values right refused is misfit
  problem-unrefused forms.Repair refused (costs, is) misfit = repair-unrefused costs refused is misfit

  -- one reason
  whole-once : (form : Form) (refused other : Refused) → first_undeclared model numbers ≡ None →
      IsMisfitBy form numbers model refused → IsMisfitBy form numbers model other → refused ≡ other
  whole-once forms.Solve refused other none (inr (declared, (is, lacks))) (inr (also, (is_also, lacks_also))) = is ∙ sym is_also
  whole-once forms.Repair refused other none (inr (declared, (is, many))) (inr (also, (is_also, many_also))) = is ∙ sym is_also
  whole-once form refused other none (inl (given, first, line)) misfit = let both : None ≡ Some given = sym none ∙ first in absurd cc
  whole-once form refused other none misfit (inl (given, first, line)) = let both : None ≡ Some given = sym none ∙ first in absurd cc

  pub misfit-once : (form : Form) (refused other : Refused) → IsMisfitBy form numbers model refused → IsMisfitBy form numbers model other →
      refused ≡ other
  misfit-once form refused other (inl (given, first, is)) (inl (next, second, also)) =
      let both : Some given ≡ Some next = sym first ∙ second in
      let same : given ≡ next = cc in
      is ∙ ap (λ (g : HeadNumber ℕ). record { place = Line g.line; why = Undeclared }) same ∙ sym also
  misfit-once form refused other (inr (declared, whole)) misfit = whole-once form refused other declared (inr (declared, whole)) misfit
  misfit-once form refused other misfit (inr (declared, whole)) = whole-once form refused other declared misfit (inr (declared, whole))

  pub solve-once : (values right others rights : List ℕ) → IsSolveProblem numbers model values right → IsSolveProblem numbers model others rights →
      (values ≡ others) × (right ≡ rights)
  solve-once values right others rights is also = (
    lists-same M values others is.count also.count (λ i j at.
        let both : Some (values_of M values i j) ≡ Some (values_of M others i j) = sym (is.values_are i j at) ∙ also.values_are i j at in
        let same : values_of M values i j ≡ values_of M others i j = cc in same),
    is.right_is ∙ sym also.right_is,
  )

  -- one problem
  pub problem-once : {F : Type 0} (number : F → ℕ) (form : Form) (problem other : Problem F) →
      IsProblemBy number form numbers model problem → IsProblemBy number form numbers model other →
      problem_numbers number problem ≡ problem_numbers number other
  problem-once number form (Solve values right) (Solve others rights) (form_is, is) (form_also, also) =
      let same = solve-once (map number values.items) (map number right.items) (map number others.items) (map number rights.items) is also in
      λ i. same.0 i ∷ same.1 i ∷ []
  problem-once number form (Repair costs) (Repair others) (form_is, is) (form_also, also) =
      let same = is.costs_are ∙ sym also.costs_are in λ i. same i ∷ []
  problem-once number form (Solve values right) (Repair costs) (form_is, is) (form_also, also) =
      let f : forms.Solve ≡ forms.Repair = sym form_is ∙ form_also in absurd cc
  problem-once number form (Repair costs) (Solve values right) (form_is, is) (form_also, also) =
      let f : forms.Repair ≡ forms.Solve = sym form_is ∙ form_also in absurd cc

  pub problem-had : {F : Type 0} (number : F → ℕ) (form : Form) (problem : Problem F) → IsProblemBy number form numbers model problem →
      HasProblem form numbers model
  problem-had number form (Solve values right) (form_is, is) =
      subst (λ form. HasProblem form numbers model) (sym form_is) (map number values.items, map number right.items, is)
  problem-had number form (Repair costs) (form_is, is) = subst (λ form. HasProblem form numbers model) (sym form_is) (costs.items, is)
