-- Rising lists by their steps.
use Rattle.std.proofs.Common.{◌≡◌, ℕ, zero, suc, ◌+◌, ◌<◌, ◌≤◌, List, [], ◌∷◌, length, map, get_or, subst, arith}
use Rattle.std.specs.List.{All}
use Rattle.std.specs.List.Sorted.{IsStrictlyIncreasing}
use Rattle.std.proofs.lemmas.List.Elements.{All-cons}
use Rattle.cert_reader.proofs.Items.{RiseFrom}

-- from `low` on, and each keeps Q
abbrev pub Above : {A : Type 0} → (A → ℕ) → (A → Type 0) → ℕ → A → Type 0
Above key Q low a = (low ≤ key a) × Q a

pub rising-from : {A : Type 0} (key : A → ℕ) (Q : A → Type 0) (low : ℕ) (xs : List A) →
    RiseFrom (Above key Q) (λ a. key a + 1) low xs → IsStrictlyIncreasing (map key xs) × All Q xs
rising-from {A} key Q low [] rise = (λ k less. absurd (omega arith), λ k d less. absurd (omega arith))
rising-from {A} key Q low (x ∷ xs) rise =
    let rest = rising-from key Q (key x + 1) xs rise.1 in
    (rises xs rest.0 rise.1, All-cons Q x xs rise.0.1 rest.1)
  where
    rises : (xs : List A) → IsStrictlyIncreasing (map key xs) → RiseFrom (Above key Q) (λ a. key a + 1) (key x + 1) xs → IsStrictlyIncreasing (map key (x ∷ xs))
    rises [] others rise k less = absurd (omega arith)
    rises (y ∷ ys) others rise zero less = omega (arith, rise.0.0)
    rises (y ∷ ys) others rise (suc k) less = subst (λ i. get_or (map key (y ∷ ys)) k 0 < get_or
        (map key (x ∷ y ∷ ys)) i 0) (let e : suc (k + 1) ≡ suc k + 1 = omega arith in e) (others k (omega arith))

pub rising-to : {A : Type 0} (key : A → ℕ) (Q : A → Type 0) (low : ℕ) (xs : List A) →
    IsStrictlyIncreasing (map key xs) → All Q xs → (0 < length xs → low ≤ get_or (map key xs) 0 0) →
    RiseFrom (Above key Q) (λ a. key a + 1) low xs
rising-to {A} key Q low [] rising all first = tt
rising-to {A} key Q low (x ∷ xs) rising all first = (
  (first (omega arith), all 0 x (omega arith)),
  rising-to key Q (key x + 1) xs
      (λ k less. subst (λ i. get_or (map key xs) k 0 < get_or (map key (x ∷ xs)) i 0)
      (let e : suc k + 1 ≡ suc (k + 1) = omega arith in e) (rising (suc k) (omega arith)))
      (λ k d less. all (suc k) d (omega arith)) (next xs rising),
)
  where
    next : (xs : List A) → IsStrictlyIncreasing (map key (x ∷ xs)) → 0 < length xs → key x + 1 ≤ get_or (map key xs) 0 0
    next [] rising some = absurd (omega arith)
    next (y ∷ ys) rising some = omega (arith, rising 0 (omega arith))
