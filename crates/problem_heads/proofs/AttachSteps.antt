-- The problem that a head says of a model, as it is found.
use Rattle.std.proofs.Common.{◌≡◌, ℕ, ◌+◌, ◌<◌, ◌≤◌, List, [], ◌∷◌, ◌++◌, length, map, take, get_or, Some, None, unwrap_or, refl}
use Rattle.std.proofs.Common.{sym, ap, subst, ◌∙◌, arith, inl, inr}
use Rattle.std.specs.List.{slice_get}
use Rattle.std.proofs.lemmas.List.{map_more}
use Rattle.std.proofs.lemmas.Option.{get_or_from_slice_get, slice_get_within}
use Rattle.refusals.specs.declared.ReadModel.{ReadModel}
use Rattle.refusals.specs.declared.ReadModel.TheVariants.{Refused as IsRefused, NoMemory}
use Rattle.refusals.specs.declared.Refused.{Refused}
use Rattle.mixed_model.specs.Models.{MixedModel}
use Rattle.problem_heads.specs.HeadNumbers.{HeadNumber, number_for}
use Rattle.problem_heads.specs.HeadReading.{HeadParts, parts_told_by}
use Rattle.problem_heads.specs.Misfits.{IsMisfitBy, IsMissing, IsUndeclared, IsWhyNoProblem, LacksValue}
use Rattle.problem_heads.specs.Problems.{AreGivenValues, IsRepairProblem, IsSolveProblem, different, first_undeclared, level_limit, sides_of}
use Rattle.problem_heads.specs.declared.form.Form.{Form}
use Rattle.problem_heads.specs.declared.form.Form.TheVariants.{Solve}
use Rattle.problem_heads.proofs.Telling.{count-told, declared-told, lacks-told, misfit-told, sides-told, values-told}

-- one side more
pub sides-more : {N : Type 0} (numbers : List (HeadNumber N)) (default : N) (equations : List (List ℕ)) (i : ℕ) (name : List ℕ)
    (sides : List N) (value : N) → slice_get equations i ≡ Some name → sides ≡ sides_of numbers default (take i equations) →
    value ≡ unwrap_or (number_for numbers (name ∷ [])) default → sides ++ value ∷ [] ≡ sides_of numbers default (take (i + 1) equations)
sides-more {N} numbers default equations i name sides value named so_far value_is =
    let side : List ℕ → N = λ equation. unwrap_or (number_for numbers (equation ∷ [])) default in
    let here : value ≡ side (get_or equations i []) = value_is ∙ ap side (sym (get_or_from_slice_get equations i name [] named)) in
    ap (λ front. front ++ value ∷ []) so_far
    ∙ ap (λ last. sides_of numbers default (take i equations) ++ last ∷ []) here
    ∙ sym (map_more side equations i [] (slice_get_within equations i name named))

-- why a value is missing, by another reason
pub missing-so : (A B : Type 0) (why : ReadModel) → (A → B) → IsMissing A why → IsMissing B why
missing-so A B (IsRefused refused) follows (is, lacks) = (is, follows lacks)
missing-so A B NoMemory follows is = tt

module _ {N : Type 0} (f : N → ℕ) (parts : HeadParts N) (self : HeadParts ℕ) (view : parts_told_by f parts ≡ self) (model : MixedModel) where
  pub undeclared-misfit : (form : Form) (refused : Refused) → IsUndeclared parts.numbers model refused → IsMisfitBy form self.numbers model refused
  undeclared-misfit form refused is =
      subst (λ (seen : HeadParts ℕ). IsMisfitBy form seen.numbers model refused) view (inl (misfit-told f parts.numbers model refused is))

  pub all-declared : first_undeclared model parts.numbers ≡ None → first_undeclared model self.numbers ≡ None
  all-declared none =
      subst (λ (seen : HeadParts ℕ). first_undeclared model seen.numbers ≡ None) view (declared-told f parts.numbers model none)

  pub missing-why : (why : ReadModel) → first_undeclared model parts.numbers ≡ None → IsMissing (LacksValue parts.numbers model) why →
      IsWhyNoProblem Solve self.numbers model why
  missing-why (IsRefused refused) none (is, lacks) =
      inr (all-declared none, (is, subst (λ (seen : HeadParts ℕ). LacksValue seen.numbers model) view (lacks-told f parts.numbers model lacks)))
  missing-why NoMemory none is = tt

  pub sides-seen : (default : N) (sides : List N) → sides ≡ sides_of parts.numbers default model.equations →
      map f sides ≡ sides_of self.numbers (f default) model.equations
  sides-seen default sides is =
      ap (map f) is ∙ sides-told f parts.numbers default model.equations
      ∙ ap (λ (seen : HeadParts ℕ). sides_of seen.numbers (f default) model.equations) view

  pub solve-seen : (values right : List N) (zero : N) → f zero ≡ 0 → first_undeclared model parts.numbers ≡ None →
      AreGivenValues parts.numbers model values → right ≡ sides_of parts.numbers zero model.equations →
      IsSolveProblem self.numbers model (map f values) (map f right)
  solve-seen values right zero is_zero none are right_is =
      let sides = sides-seen zero right right_is in
      subst (λ (seen : HeadParts ℕ). IsSolveProblem seen.numbers model (map f values) (map f right)) view
      (record {
        declared = declared-told f parts.numbers model none;
        count = count-told f parts.numbers model values are;
        values_are = values-told f parts.numbers model values are;
        right_is = sides ∙ ap (λ n. sides_of self.numbers n model.equations) is_zero
            ∙ ap (λ (seen : HeadParts ℕ). sides_of seen.numbers 0 model.equations) (sym view);
      })

map-same : (xs : List ℕ) → map (λ x. x) xs ≡ xs
map-same [] = refl
map-same (x ∷ xs) = ap (λ rest. x ∷ rest) (map-same xs)

-- costs
module _ (parts self : HeadParts ℕ) (view : parts_told_by (λ cost. cost) parts ≡ self) (model : MixedModel) (costs : List ℕ)
    (costs_are : costs ≡ sides_of parts.numbers 1 model.equations) (none : first_undeclared model parts.numbers ≡ None) where
  costs-seen : costs ≡ sides_of self.numbers 1 model.equations
  costs-seen = sym (map-same costs) ∙ sides-seen (λ cost. cost) parts self view model 1 costs costs_are

  pub costs-few : (count : ℕ) → count ≡ length (different costs) → count ≤ level_limit → IsRepairProblem self.numbers model costs
  costs-few count counted few = record {
    declared = all-declared (λ cost. cost) parts self view model none;
    costs_are = costs-seen;
    few = omega (arith, counted, few);
  }

  pub costs-many : (count : ℕ) → count ≡ length (different costs) → level_limit < count →
      level_limit < length (different (sides_of self.numbers 1 model.equations))
  costs-many count counted many = omega (arith, counted, many, ap (λ all. length (different all)) costs-seen)
