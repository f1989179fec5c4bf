-- Rising lists of numbers: their items differ, are in order, and are their members.
use Rattle.std.proofs.Common.{◌≡◌, ℕ, zero, suc, ◌+◌, ◌-◌, ◌<◌, ◌≤◌, Bool, true, false, eqb, List, [], ◌∷◌, length, slice_index}
use Rattle.std.proofs.Common.{inl, inr, refl, ap, sym, subst, ◌∙◌, arith}
use Rattle.std.specs.List.Sorted.{IsStrictlyIncreasing}
use Rattle.std.proofs.lemmas.List.Kept.{AllPairs-from_increasing}
use Rattle.residue_theory.specs.Sets.{everything, has}
use Rattle.residue_theory.specs.Sums.{size_on, sum_below, sum_on}
use Rattle.residue_theory.proofs.CountLaws.{size-everything, size-injection, size-surjection}
use Rattle.residue_theory.proofs.SetLaws.{differ, either-second, either_cases, eqb_true, lt_cases, not_true}
use Rattle.residue_theory.proofs.SumLaws.{nat_cases, size_on-within, sum_on-same, sum_on-without, without-member, member-without}
use Rattle.residue_theory.specs.Sets.{without}
use Rattle.part_arcs.proofs.FormLaws.{has-some, some-has}

pub less-order : (list : List ℕ) → IsStrictlyIncreasing list → (i j : ℕ) → i < j → j < length list → slice_index list i < slice_index list j
less-order list rising i j less jl = AllPairs-from_increasing list rising i j 0 less jl

pub rising-distinct : (list : List ℕ) → IsStrictlyIncreasing list → (c d : ℕ) → c < length list → d < length list →
    slice_index list c ≡ slice_index list d → c ≡ d
rising-distinct list rising c d cl dl q = elim (lt_cases c d) [
  | inl less ↦ absurd (omega (arith, less-order list rising c d less dl, q))
  | inr more ↦ elim (lt_cases d c) [
    | inl less ↦ absurd (omega (arith, less-order list rising d c less cl, q))
    | inr equal ↦ omega (arith, more, equal)
  ]
]

-- and not only one after the other
pub rising-weakly : (list : List ℕ) → IsStrictlyIncreasing list → (i j : ℕ) → i ≤ j → j < length list → slice_index list i ≤ slice_index list j
rising-weakly list rising i j le jl = elim (nat_cases i j) [
  | inl q ↦ let e : slice_index list i ≡ slice_index list j = ap (slice_index list) q in omega (arith, e)
  | inr ne ↦ omega (arith, less-order list rising i j (omega (arith, le, ne)) jl)
]

pub rest-rises : (x : ℕ) (xs : List ℕ) → IsStrictlyIncreasing (x ∷ xs) → IsStrictlyIncreasing xs
rest-rises x xs rising k kl = less-order (x ∷ xs) rising (suc k) (suc (k + 1)) (omega arith) (omega (arith, kl))

-- the members below a bound are the items before it
pub members-before : (list : List ℕ) → IsStrictlyIncreasing list → (m bound : ℕ) → m ≤ length list →
    ((i : ℕ) → i < m → slice_index list i < bound) → ((i : ℕ) → m ≤ i → i < length list → bound ≤ slice_index list i) →
    size_on (has list) bound ≡ m
members-before list rising m bound le early late = omega (arith, size-everything m, many, few)
  where
    many : size_on everything m ≤ size_on (has list) bound
    many = size-injection everything m (slice_index list) bound (has list) (λ i il _. early i il)
        (λ i il _. some-has list i (slice_index list i) (omega (arith, il, le)) refl)
        (λ i k il kl _ _ q. rising-distinct list rising i k (omega (arith, il, le)) (omega (arith, kl, le)) q)

    few : size_on (has list) bound ≤ size_on everything m
    few = size-surjection everything m (slice_index list) bound (has list) one
      where
        one : (x : ℕ) → x < bound → has list x ≡ true → (a : ℕ) × (a < m) × (everything a ≡ true) × (slice_index list a ≡ x)
        one x xl h =
            let at = has-some list x h in
            (at.0, within at.0 at.1 at.2, refl, at.2)
          where
            within : (a : ℕ) → a < length list → slice_index list a ≡ x → a < m
            within a al q = elim (lt_cases a m) [
              | inl less ↦ less
              | inr more ↦ absurd (omega (arith, late a more al, q, xl))
            ]

-- ---- sums over the members
sum-shift : (n : ℕ) (f : ℕ → ℕ) → sum_below (suc n) f ≡ f 0 + sum_below n (λ k. f (suc k))
sum-shift zero f = omega arith
sum-shift (suc n) f = omega (arith, sum-shift n f)

first-out : (x : ℕ) (xs : List ℕ) → IsStrictlyIncreasing (x ∷ xs) → has xs x ≡ true → ⊥
first-out x xs rising h =
    let at = has-some xs x h in
    absurd (omega (arith, less-order (x ∷ xs) rising 0 (suc at.0) (omega arith) (omega (arith, at.1)), at.2))

pub sum-members : (list : List ℕ) (n : ℕ) (f : ℕ → ℕ) → IsStrictlyIncreasing list → ((k : ℕ) → k < length list → slice_index list k < n) →
    sum_on (has list) n f ≡ sum_below (length list) (λ k. f (slice_index list k))
sum-members [] n f rising below = none n
  where
    none : (n : ℕ) → sum_on (has []) n f ≡ 0
    none zero = refl
    none (suc n) = omega (arith, none n)
sum-members (x ∷ xs) n f rising below =
    sum_on-without (has (x ∷ xs)) n x f (below 0 (omega arith)) (some-has (x ∷ xs) 0 x (omega arith) refl)
    ∙ ap (λ s. s + f x) (sum_on-same (without (has (x ∷ xs)) x) (has xs) n f (λ j _. same j)
    ∙ sum-members xs n f (rest-rises x xs rising) (λ k kl. below (suc k) (omega (arith, kl))))
    ∙ turned (sum_below (length xs) (λ k. f (slice_index xs k))) (f x)
    ∙ sym (sum-shift (length xs) (λ k. f (slice_index (x ∷ xs) k)))
  where
    turned : (a b : ℕ) → a + b ≡ b + a
    turned a b = omega arith

    same : (j : ℕ) → without (has (x ∷ xs)) x j ≡ has xs j
    same j = go (has xs j) refl
      where
        go : (b : Bool) → has xs j ≡ b → without (has (x ∷ xs)) x j ≡ has xs j
        go true h = member-without (has (x ∷ xs)) x j (either-second (eqb x j) (has xs j) h)
            (λ q. absurd (first-out x xs rising (subst (λ k. has xs k ≡ true) q h))) ∙ sym h
        go false h = not_true (without (has (x ∷ xs)) x j) (λ w.
            let in_both = without-member (has (x ∷ xs)) x j w in
            elim (either_cases (eqb x j) (has xs j) in_both.0) [
              | inl first ↦ in_both.1 (sym (eqb_true x j first))
              | inr later ↦ differ h later
            ]) ∙ sym h

-- rising numbers below n are at most n
pub rising-short : (list : List ℕ) (n : ℕ) → IsStrictlyIncreasing list → ((k : ℕ) → k < length list → slice_index list k < n) → length list ≤ n
rising-short list n rising below = omega (
  arith,
  members-before list rising (length list) n (omega arith) below (λ i il less. absurd (omega (arith, il, less))),
  size_on-within everything (has list) n (λ _ _ _. refl),
  size-everything n,
)
