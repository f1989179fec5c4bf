-- A loop over the pairs of two slices, and their numbers.
use Rattle.std.proofs.Common.{◌≡◌, ℕ, ◌+◌, ◌<◌, Option, Some, None, List, [], ◌∷◌, length, map, get_or, min, Bor, Iter, sym, ap, subst, refl, ◌∙◌, arith}
use Rattle.std.specs.Iterator.{Yields}
use Rattle.std.specs.Iterator.Adapters.{enumerate_source, enumerate_count, enumerate_steps, zip_first, zip_second}
use Rattle.std.specs.Slice.Iter.{iter_rest}
use Rattle.std.specs.declared.iter.Enumerate.{Enumerate}
use Rattle.std.specs.declared.iter.Zip.{Zip}
use Rattle.std.proofs.iter.Yields.{fronts}
use Rattle.std.proofs.lemmas.Iterator.{zips}
use Rattle.std.proofs.lemmas.List.{length-map}
use Rattle.std.proofs.lemmas.Slice.Zip.{zip_turn, zip_end}

-- what was enumerated, without the numbers
enumerated : {S A : Type 0} (steps : S → Option A → S → Type 0) (xs : List (ℕ × A)) (s t : Enumerate S) → Yields (enumerate_steps steps) s xs t
    → Yields steps (enumerate_source s) (map (λ x. x.1) xs) (enumerate_source t) × (enumerate_count t ≡ enumerate_count s + length xs)
enumerated steps [] s t same = (ap enumerate_source same, ap enumerate_count (sym same) ∙ omega arith)
enumerated steps (x ∷ xs) s t more =
    let rest = enumerated steps xs more.0 t more.2 in
    ((enumerate_source more.0, more.1.0, rest.0), omega (arith, rest.1, more.1.2))

-- The next turn has the next pair and its number.
pub record IsTurn {A B : Type 0} (ks : List A) (vs : List B) (n place : ℕ) (a : A) (b : B) : Type 0 where
  pub first_within : n < length ks
  pub second_within : n < length vs
  pub first : a ≡ get_or ks n a
  pub second : b ≡ get_or vs n b
  pub number : place ≡ n

module _ {A B : Type 0} (ks : List A) (vs : List B) (xs : List (ℕ × (Bor A × Bor B)))
    (s t u : Enumerate (Zip (Iter A) (Iter B))) (r : Option (ℕ × (Bor A × Bor B)))
    (first : iter_rest (zip_first (enumerate_source s)) ≡ ks) (second : iter_rest (zip_second (enumerate_source s)) ≡ vs) (none : enumerate_count s ≡ 0)
    (yielded : Yields (enumerate_steps (zips fronts fronts)) s xs t) where
  pairs : List (Bor A × Bor B)
  pairs = map (λ x. x.1) xs

  pub turn_of : (place : ℕ) (a : Bor A) (b : Bor B) → r ≡ Some (place, (a, b)) →
      enumerate_steps (zips fronts fronts) t r u → IsTurn ks vs (length xs) place a.now b.now
  turn_of place a b is steps =
      let so_far = enumerated (zips fronts fronts) xs s t yielded in
      let step = subst (λ o. enumerate_steps (zips fronts fronts) t o u) is steps in
      let turn = zip_turn ks vs (map (λ x. x.1) xs) (enumerate_source s) (enumerate_source t) (enumerate_source u)
      (Some (a, b)) first second so_far.0 (a, b) refl step.0 in
      let count = length-map xs (λ (x : ℕ × (Bor A × Bor B)). x.1) in
      record {
        first_within = omega (arith, turn.0, count);
        second_within = omega (arith, turn.1, count);
        first = turn.2 a.now ∙ ap (λ n. get_or ks n a.now) count;
        second = turn.3 b.now ∙ ap (λ n. get_or vs n b.now) count;
        number = omega (arith, so_far.1, none, step.1);
      }

  pub turns_all : r ≡ None → enumerate_steps (zips fronts fronts) t r u → length xs ≡ min (length ks) (length vs)
  turns_all is steps =
      let so_far = enumerated (zips fronts fronts) xs s t yielded in
      let step = subst (λ o. enumerate_steps (zips fronts fronts) t o u) is steps in
      sym (length-map xs (λ (x : ℕ × (Bor A × Bor B)). x.1))
      ∙ zip_end ks vs (map (λ x. x.1) xs) (enumerate_source s) (enumerate_source t) (enumerate_source u) None first second so_far.0 refl step.0
