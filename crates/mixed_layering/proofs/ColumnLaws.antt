-- The origins of columns, put one after the other.
use Rattle.std.proofs.Common.{◌≡◌, Bool, ℕ, zero, suc, ◌+◌, ◌<◌, ◌≤◌, List, [], ◌∷◌, ◌++◌, length, get_or}
use Rattle.std.proofs.Common.{slice_index, Result, Ok, Err, Some, refl, sym, ap, subst, ◌∙◌, arith, ⊎_elim}
use Rattle.std.proofs.Common.{length-append}
use Rattle.std.specs.List.{slice_get, count_by}
use Rattle.std.proofs.lemmas.List.Sums.{sum_by-append}
use Rattle.mixed_model.specs.Layers.{is_split}
use Rattle.std.proofs.lemmas.Bool.{cases_lt}
use Rattle.std.proofs.lemmas.List.Sorted.{searched}
use Rattle.std.specs.List.Sorted.{IsStrictlyIncreasing, IsBinarySearchResult}
use Rattle.std.specs.Ordering.{nat_cmp}
use Rattle.std.specs.Option.{MatchOption}
use Rattle.std.specs.Result.{MatchResult, result_ok}
use Rattle.sparse_t.proofs.ListLaws.{rises}
use Rattle.mixed_model.specs.declared.origin.Origin.{Origin}
use Rattle.mixed_model.specs.declared.origin.Origin.TheVariants.{Unknown, Split}
use Rattle.mixed_layering.specs.Columns.{AreColumns, StandsIn, IsAbsent}

-- what stood in a list stands in it still after an item is put at its end
slice_get-push : {A : Type 0} (xs : List A) (y : A) (k : ℕ) → k < length xs → slice_get (xs ++ y ∷ []) k ≡ slice_get xs k
slice_get-push [] y k at = absurd (omega arith)
slice_get-push (x ∷ xs) y zero at = refl
slice_get-push (x ∷ xs) y (suc k) at = slice_get-push xs y k (omega arith)

slice_get-pushed : {A : Type 0} (xs : List A) (y : A) (k : ℕ) → k ≡ length xs → slice_get (xs ++ y ∷ []) k ≡ Some y
slice_get-pushed [] y k at = ap (slice_get (y ∷ [])) at
slice_get-pushed (x ∷ xs) y zero at = absurd (omega arith)
slice_get-pushed (x ∷ xs) y (suc k) at = slice_get-pushed xs y k (omega arith)

-- how many items pass a test is counted item by item
count_by-append : {A : Type 0} (P : A → Bool) (xs ys : List A) → count_by P (xs ++ ys) ≡ count_by P xs + count_by P ys
count_by-append P xs ys = sum_by-append _ xs ys

pub columns-unknown : (u : ℕ) (split : List ℕ) (xs : List Origin) → AreColumns u split 0 xs → AreColumns (u + 1) split 0 (xs ++ Unknown u ∷ [])
columns-unknown u split xs are = record {
  count = omega (arith, length-append xs (Unknown u ∷ []), are.count);
  splits = count_by-append is_split xs (Unknown u ∷ []) ∙ omega (arith, are.splits);
  unknown = λ j at. ⊎_elim
      (λ before. slice_get-push xs (Unknown u) j (omega (arith, are.count)) ∙ are.unknown j before)
      (λ last. let same : u ≡ j = omega arith in slice_get-pushed xs (Unknown u) j (omega (arith, are.count, same)) ∙ ap (λ x. Some (Unknown x)) same)
      (cases_lt j u);
  auxiliary = λ k at. absurd (omega (arith, at));
}

pub columns-split : (u : ℕ) (split : List ℕ) (n : ℕ) (xs : List Origin) → AreColumns u split n xs →
    AreColumns u split (n + 1) (xs ++ Split (slice_index split n) ∷ [])
columns-split u split n xs are = record {
  count = omega (arith, length-append xs (Split (slice_index split n) ∷ []), are.count);
  splits = count_by-append is_split xs (Split (slice_index split n) ∷ []) ∙ omega (arith, are.splits);
  unknown = λ j at. slice_get-push xs (Split (slice_index split n)) j (omega (arith, are.count)) ∙ are.unknown j at;
  auxiliary = λ k at. ⊎_elim
      (λ before. slice_get-push xs (Split (slice_index split n)) (u + k) (omega (arith, are.count, before)) ∙ are.auxiliary k before)
      (λ last. let same : n ≡ k = omega (arith, last) in slice_get-pushed xs (Split (slice_index split n)) (u + k)
      (omega (arith, are.count, same)) ∙ ap (λ x. Some (Split (slice_index split x))) same)
      (cases_lt k n);
}

-- what a binary search finds
pub found_place : (list : List ℕ) (number : ℕ) (r : Result ℕ ℕ) → IsStrictlyIncreasing list →
    IsBinarySearchResult (λ y. nat_cmp y number) list r → MatchOption (result_ok r) (IsAbsent list number)
    (λ place. StandsIn list number place)
found_place list number r up found = go r (searched list number r found rising)
  where
    rising : (i j : ℕ) → i ≤ j → j < length list → get_or list i 0 ≤ get_or list j 0
    rising i j le l = ⊎_elim
        (λ less. omega (arith, rises list up i j less l))
        (λ ge. let same : i ≡ j = omega arith in subst (λ v. get_or list v 0 ≤ get_or list j 0) (sym same) (omega arith))
        (cases_lt i j)

    go : (r : Result ℕ ℕ) → MatchResult r (λ i. (i < length list) × (get_or list i 0 ≡ number))
        (λ i. (i ≤ length list) × ((k : ℕ) → k < i → get_or list k 0 < number) × ((k : ℕ) → i ≤ k → k < length list →
        number < get_or list k 0)) →
        MatchOption (result_ok r) (IsAbsent list number) (λ place. StandsIn list number place)
    go (Ok i) (l, e) = record { within = l; item = e }
    go (Err i) (le, low, high) = λ k l q. ⊎_elim (λ less. omega (arith, low k less, q)) (λ ge. omega (arith, high k ge l, q)) (cases_lt k i)
