-- Rising lists of numbers are told by their members.
use Rattle.std.proofs.Common.{◌≡◌, ℕ, zero, suc, ◌+◌, ◌<◌, ◌≤◌, Bool, true, false, eqb, inl, inr, List, [], ◌∷◌}
use Rattle.std.proofs.Common.{length, get_or, refl, ap, sym, subst, ◌∙◌, arith}
use Rattle.std.specs.List.Sorted.{IsStrictlyIncreasing}
use Rattle.std.proofs.lemmas.List.Kept.{AllPairs-from_increasing}
use Rattle.residue_theory.specs.Sets.{everything, has}
use Rattle.residue_theory.specs.Sums.{size_on}
use Rattle.residue_theory.proofs.SetLaws.{differ, either_cases, either-first, either-second, eqb_true, eqb_from, lt_cases, not_true}
use Rattle.residue_theory.proofs.CountLaws.{size-everything, size-injection, size-surjection}
use Rattle.cert_text.specs.Ranges.{AreRising}
use Rattle.cert_text.proofs.PrintedRules.{has-below}

-- two tests that are true together
pub same-tests : (a b : Bool) → (a ≡ true → b ≡ true) → (b ≡ true → a ≡ true) → a ≡ b
same-tests true b f g = sym (f refl)
same-tests false b f g = sym (not_true b (λ h. differ refl (g h)))

-- the place of a number in a list
has-place : (xs : List ℕ) (x : ℕ) → has xs x ≡ true → (k : ℕ) × (k < length xs) × (get_or xs k 0 ≡ x)
has-place [] x h = absurd (differ refl h)
has-place (y ∷ xs) x h = elim (either_cases (eqb y x) (has xs x) h) [
  | inl here ↦ (0, omega arith, eqb_true y x here)
  | inr later ↦ let at = has-place xs x later in (suc at.0, omega (arith, at.1), at.2)
]

has-item : (xs : List ℕ) (k : ℕ) → k < length xs → has xs (get_or xs k 0) ≡ true
has-item [] k kl = absurd (omega arith)
has-item (y ∷ xs) zero kl = either-first (eqb y y) (has xs y) (eqb_from y y refl)
has-item (y ∷ xs) (suc k) kl = either-second (eqb y (get_or xs k 0)) (has xs (get_or xs k 0)) (has-item xs k (omega arith))

rises : (xs : List ℕ) → IsStrictlyIncreasing xs → (k l : ℕ) → k < l → l < length xs → get_or xs k 0 < get_or xs l 0
rises xs rising k l less ll = AllPairs-from_increasing xs rising k l 0 less ll

-- the first number is below the others
first-less : (x : ℕ) (xs : List ℕ) → IsStrictlyIncreasing (x ∷ xs) → (y : ℕ) → has xs y ≡ true → x < y
first-less x xs rising y h =
    let at = has-place xs y h in
    subst (λ z. x < z) at.2 (rises (x ∷ xs) rising 0 (suc at.0) (omega arith) (omega (arith, at.1)))

rest-rises : (x : ℕ) (xs : List ℕ) → IsStrictlyIncreasing (x ∷ xs) → IsStrictlyIncreasing xs
rest-rises x xs rising k kl = rises (x ∷ xs) rising (suc k) (suc (k + 1)) (omega arith) (omega arith)

-- a first number that both lists hold is the first of both
same-first : (x y : ℕ) (xs ys : List ℕ) → IsStrictlyIncreasing (x ∷ xs) → IsStrictlyIncreasing (y ∷ ys) →
    has (y ∷ ys) x ≡ true → has (x ∷ xs) y ≡ true → x ≡ y
same-first x y xs ys one two hx hy = elim (either_cases (eqb y x) (has ys x) hx) [
  | inl here ↦ sym (eqb_true y x here)
  | inr later ↦ elim (either_cases (eqb x y) (has xs y) hy) [
    | inl here ↦ eqb_true x y here
    | inr after ↦ absurd (omega (arith, first-less y ys two x later, first-less x xs one y after))
  ]
]

same-rest : (x : ℕ) (xs ys : List ℕ) → IsStrictlyIncreasing (x ∷ xs) → IsStrictlyIncreasing (x ∷ ys) →
    ((z : ℕ) → has (x ∷ xs) z ≡ has (x ∷ ys) z) → (z : ℕ) → has xs z ≡ true → has ys z ≡ true
same-rest x xs ys one two same z h = elim (either_cases (eqb x z) (has ys z) (sym (same z) ∙ either-second (eqb x z) (has xs z) h)) [
  | inl here ↦ absurd (omega (arith, eqb_true x z here, first-less x xs one z h))
  | inr later ↦ later
]

same-members : (xs ys : List ℕ) → IsStrictlyIncreasing xs → IsStrictlyIncreasing ys → ((z : ℕ) → has xs z ≡ has ys z) → xs ≡ ys
same-members [] [] one two same = refl
same-members [] (y ∷ ys) one two same = absurd (differ (sym (same y)) (either-first (eqb y y) (has ys y) (eqb_from y y refl)))
same-members (x ∷ xs) [] one two same = absurd (differ (same x) (either-first (eqb x x) (has xs x) (eqb_from x x refl)))
same-members (x ∷ xs) (y ∷ ys) one two same =
    let first : x ≡ y = same-first x y xs ys one two
    (sym (same x) ∙ either-first (eqb x x) (has xs x) (eqb_from x x refl))
    (same y ∙ either-first (eqb y y) (has ys y) (eqb_from y y refl)) in
    let equal : (z : ℕ) → has (x ∷ xs) z ≡ has (x ∷ ys) z = subst (λ w. (z : ℕ) → has (x ∷ xs) z ≡ has (w ∷ ys) z) (sym first) same in
    let other : IsStrictlyIncreasing (x ∷ ys) = subst (λ w. IsStrictlyIncreasing (w ∷ ys)) (sym first) two in
    let rest : xs ≡ ys = same-members xs ys (rest-rises x xs one) (rest-rises x ys other)
    (λ z. same-tests (has xs z) (has ys z) (same-rest x xs ys one other equal z) (same-rest x ys xs other one (λ w. sym (equal w)) z)) in
    ap (λ w. w ∷ xs) first ∙ ap (λ zs. y ∷ zs) rest

-- rising lists below n with the same members are one
pub same-lists : (n : ℕ) (xs ys : List ℕ) → AreRising n xs → AreRising n ys →
    ((z : ℕ) → z < n → has xs z ≡ true → has ys z ≡ true) → ((z : ℕ) → z < n → has ys z ≡ true → has xs z ≡ true) → xs ≡ ys
same-lists n xs ys one two into from = same-members xs ys one.rising two.rising
    (λ z. same-tests (has xs z) (has ys z) (λ h. into z (has-below n xs z one.below h) h) (λ h. from z (has-below n ys z two.below h) h))

-- a rising list is as long as its members are many
pub members-counted : (n : ℕ) (xs : List ℕ) → AreRising n xs → size_on (has xs) n ≡ length xs
members-counted n xs are = omega (arith, size-everything (length xs), many, few)
  where
    few : size_on (has xs) n ≤ size_on everything (length xs)
    few = size-surjection everything (length xs) (λ k. get_or xs k 0) n (has xs)
        (λ x xl h. let at = has-place xs x h in (at.0, at.1, refl, at.2))

    apart : (k l : ℕ) → k < length xs → l < length xs → get_or xs k 0 ≡ get_or xs l 0 → k ≡ l
    apart k l kl ll same = elim (lt_cases k l) [
      | inl less ↦ absurd (omega (arith, rises xs are.rising k l less ll, same))
      | inr more ↦ elim (lt_cases l k) [
        | inl less ↦ absurd (omega (arith, rises xs are.rising l k less kl, same))
        | inr equal ↦ omega arith
      ]
    ]

    many : size_on everything (length xs) ≤ size_on (has xs) n
    many = size-injection everything (length xs) (λ k. get_or xs k 0) n (has xs)
        (λ k kl _. are.below k 0 kl) (λ k kl _. has-item xs k kl) (λ k l kl ll _ _ same. apart k l kl ll same)
