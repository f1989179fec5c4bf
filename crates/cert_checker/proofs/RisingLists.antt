-- Rising lists of numbers.
use Rattle.std.proofs.Common.{◌≡◌, ℕ, zero, suc, ◌+◌, ◌<◌, ◌≤◌, List, length, map, slice_index, sym, subst, arith}
use Rattle.std.specs.List.Sorted.{IsStrictlyIncreasing}
use Rattle.std.proofs.lemmas.List.{get_or-map, length-map}
use Rattle.cert_text.specs.Ranges.{ArePairs}

-- each number of a rising list is at least its place
at_least : (xs : List ℕ) → IsStrictlyIncreasing xs → (k : ℕ) → k < length xs → k ≤ slice_index xs k
at_least xs rising zero low = omega arith
at_least xs rising (suc k) low =
    let before : k ≤ slice_index xs k = at_least xs rising k (omega (arith, low)) in
    let step : slice_index xs k < slice_index xs (suc k) = subst (λ i. slice_index xs k < slice_index xs i) (next k) (rising k (omega (arith, low))) in
    omega (arith, before, step)
  where
    next : (i : ℕ) → i + 1 ≡ suc i
    next i = omega arith

few : (m : ℕ) (xs : List ℕ) (n : ℕ) → IsStrictlyIncreasing xs → ((k : ℕ) → k < length xs → slice_index xs k < m) → length xs ≡ n → n ≤ m
few m xs zero rising below long = omega arith
few m xs (suc n) rising below long =
    let low : n < length xs = omega (arith, long) in
    omega (arith, at_least xs rising n low, below n low)

-- items by rising row are no more than the rows
pub pairs_few : (m n : ℕ) (pairs : List (ℕ × ℕ)) → ArePairs m n pairs → length pairs ≤ m
pairs_few m n pairs are = few m (map (λ (pair : ℕ × ℕ). pair.0) pairs) (length pairs) are.rising
    (λ k kl.
    let low : k < length pairs = subst (λ i. k < i) (length-map pairs (λ (pair : ℕ × ℕ). pair.0)) kl in
    subst (λ x. x < m) (sym (get_or-map (λ (pair : ℕ × ℕ). pair.0) pairs k (0, 0) 0 low)) (are.within k (0, 0) low).0)
    (length-map pairs (λ (pair : ℕ × ℕ). pair.0))
