-- What was given, told by numbers.
use Rattle.std.proofs.Common.{◌≡◌, ℕ, Bool, true, false, not, cond, List, [], ◌∷◌, length, map, Option, Some, None, unwrap_or, refl}
use Rattle.std.proofs.Common.{sym, ap, ◌∙◌}
use Rattle.std.specs.List.{find}
use Rattle.std.specs.Option.{option_map}
use Rattle.std.specs.List.{slice_get}
use Rattle.std.proofs.lemmas.List.{length-map}
use Rattle.std.proofs.lemmas.Option.{get_or_from_slice_get, slice_get-map}
use Rattle.refusals.specs.declared.Refused.{Refused}
use Rattle.refusals.specs.declared.Why.TheVariants.{Twice}
use Rattle.mixed_model.specs.Models.{MixedModel, mixed_matrix_of}
use Rattle.mixed_model.proofs.NameLaws.{list_any_map}
use Rattle.value_list_laws.specs.FixedSymbols.{IsSymbolPlace}
use Rattle.value_list_laws.specs.ListedValues.{symbol_count, symbols_before, values_of}
use Rattle.problem_heads.specs.HeadNumbers.{HeadNumber, are_same_names, number_for}
use Rattle.problem_heads.specs.HeadReading.{told_by}
use Rattle.problem_heads.specs.HeadRules.{fresh_names_rule}
use Rattle.problem_heads.specs.Misfits.{IsUndeclared, LacksValue}
use Rattle.problem_heads.specs.Problems.{AreGivenValues, first_undeclared, is_declared, place_names, sides_of}

find-map : {X Y : Type 0} (test : Y → Bool) (f : X → Y) (xs : List X) → find test (map f xs) ≡ option_map f (find (λ x. test (f x)) xs)
find-map {X} {Y} test f [] = refl
find-map {X} {Y} test f (x ∷ xs) = by (test (f x)) (find-map test f xs)
  where
    by : (b : Bool) → find test (map f xs) ≡ option_map f (find (λ x. test (f x)) xs) →
        cond b (Some (f x)) (find test (map f xs)) ≡ option_map f (cond b (Some x) (find (λ x. test (f x)) xs))
    by true rest = refl
    by false rest = rest

option-twice : {A B C : Type 0} (f : A → B) (g : B → C) (o : Option A) → option_map g (option_map f o) ≡ option_map (λ x. g (f x)) o
option-twice f g None = refl
option-twice f g (Some x) = refl

unwrap-map : {A B : Type 0} (f : A → B) (o : Option A) (d : A) → unwrap_or (option_map f o) (f d) ≡ f (unwrap_or o d)
unwrap-map f None d = refl
unwrap-map f (Some x) d = refl

module _ {N : Type 0} (f : N → ℕ) (numbers : List (HeadNumber N)) where
  abbrev told : List (HeadNumber ℕ)
  told = map (told_by f) numbers

  pub number-told : (names : List (List ℕ)) → number_for told names ≡ option_map f (number_for numbers names)
  number-told names =
      let test : HeadNumber N → Bool = λ given. are_same_names names given.names in
      ap (option_map (λ (given : HeadNumber ℕ). given.number)) (find-map (λ (given : HeadNumber ℕ). are_same_names names given.names) (told_by f) numbers)
      ∙ option-twice (told_by f) (λ (given : HeadNumber ℕ). given.number) (find test numbers)
      ∙ sym (option-twice (λ (given : HeadNumber N). given.number) f (find test numbers))

  pub undeclared-told : (model : MixedModel) → first_undeclared model told ≡ option_map (told_by f) (first_undeclared model numbers)
  undeclared-told model = find-map (λ (given : HeadNumber ℕ). not (is_declared model given.names)) (told_by f) numbers

  pub declared-told : (model : MixedModel) → first_undeclared model numbers ≡ None → first_undeclared model told ≡ None
  declared-told model none = undeclared-told model ∙ ap (option_map (told_by f)) none

  pub misfit-told : (model : MixedModel) (refused : Refused) → IsUndeclared numbers model refused → IsUndeclared told model refused
  misfit-told model refused (given, first, is) = (told_by f given, undeclared-told model ∙ ap (option_map (told_by f)) first, is)

  pub sides-told : (default : N) (equations : List (List ℕ)) → map f (sides_of numbers default equations) ≡ sides_of told (f default) equations
  sides-told default [] = refl
  sides-told default (equation ∷ equations) =
      let here : f (unwrap_or (number_for numbers (equation ∷ [])) default) ≡ unwrap_or (number_for told (equation ∷ [])) (f default) =
      sym (unwrap-map f (number_for numbers (equation ∷ [])) default) ∙ ap (λ o. unwrap_or o (f default)) (sym (number-told (equation ∷ []))) in
      let rest = sides-told default equations in
      λ i. here i ∷ rest i

  pub fresh-told : (names : List (List ℕ)) → fresh_names_rule told names ≡ fresh_names_rule numbers names
  fresh-told names = ap (λ b. cond b (Some Twice) None) (list_any_map (λ (earlier : HeadNumber ℕ). are_same_names names earlier.names) (told_by f) numbers)

  pub lacks-told : (model : MixedModel) → LacksValue numbers model → LacksValue told model
  lacks-told model (i, j, at, none) = (i, j, at, number-told (place_names model i j) ∙ ap (option_map f) none)

  module _ (model : MixedModel) (values : List N) (are : AreGivenValues numbers model values) where
    pub count-told : length (map f values) ≡ symbol_count (mixed_matrix_of model)
    count-told = length-map values f ∙ are.count

    pub values-told : (i j : ℕ) → IsSymbolPlace (mixed_matrix_of model) i j →
        number_for told (place_names model i j) ≡ Some (values_of (mixed_matrix_of model) (map f values) i j)
    values-told i j at =
        let (value, given, there) = are.each i j at in
        let k = symbols_before (mixed_matrix_of model) i j in
        let here : slice_get (map f values) k ≡ Some (f value) = slice_get-map f values k ∙ ap (option_map f) there in
        number-told (place_names model i j) ∙ ap (option_map f) given ∙ ap Some (sym (get_or_from_slice_get (map f values) k (f value) 0 here))
