-- The members of a set, listed in order, without one number.
use Rattle.std.proofs.Common.{◌≡◌, ℕ, zero, suc, ◌+◌, ◌-◌, ◌<◌, ◌≤◌, ◌≢◌, Bool, true, false, cond, ◌⊎◌, inl, inr, refl, ap, sym, subst, ◌∙◌, arith}
use Rattle.std.proofs.lemmas.Bool.Decides.{nat_tests}
use Rattle.residue_theory.specs.Sets.{without}
use Rattle.residue_theory.specs.Sums.{size_on}
use Rattle.residue_theory.proofs.SetLaws.{differ}
use Rattle.residue_theory.proofs.SumLaws.{nat_cases, sum_on-same, sum_on-without, without-other, without-same}
use Rattle.linear_algebra.specs.Parts.{skip}
use Rattle.linear_algebra_laws.proofs.SkipLaws.{skip-below, skip-first, skip-other, skip-unskip, sum_on-skip, unskip, unskip-below}
use Rattle.mixed_matrices.specs.Layerings.{AreMembers}
use Rattle.mixed_edit_laws.specs.Rests.{gap, listed_without, one, set_without}

-- a member is counted from its successor on
pub size-later : (A : ℕ → Bool) (e n : ℕ) → e < n → A e ≡ true → size_on A e < size_on A n
size-later A e zero l h = absurd (omega arith)
size-later A e (suc n) l h = elim (nat_cases e n) [
  | inl q ↦ subst (λ k. size_on A k < size_on A n + cond (A n) 1 0) (sym q) (here (A n) (subst (λ k. A k ≡ true) q h))
  | inr ne ↦ omega (arith, size-later A e n (omega arith) h)
]
  where
    here : (b : Bool) → b ≡ true → size_on A n < size_on A n + cond b 1 0
    here b x = grind arith

order : (a b : ℕ) → (a ≡ b) ⊎ ((a < b) ⊎ (b < a))
order a b = grind arith

-- before e the members are the same
size-before : (A : ℕ → Bool) (e k : ℕ) → k ≤ e → size_on (set_without e A) k ≡ size_on A k
size-before A e k le = sum_on-same (set_without e A) A k (λ _. 1) (λ j jl. ap A (skip-first e j (omega arith)))

-- from e on there is one less, where e is a member
size-from : (A : ℕ → Bool) (e k : ℕ) → e ≤ k → size_on (set_without e A) k + one (A e) ≡ size_on A (suc k)
size-from A e k le = ap (λ s. s + one (A e)) (sym (sum_on-skip A k e (λ _. 1) (omega arith))) ∙ at (A e) refl
  where
    at : (b : Bool) → A e ≡ b → size_on (without A e) (suc k) + one b ≡ size_on A (suc k)
    at true h = sym (sum_on-without A (suc k) e (λ _. 1) (omega arith) h)
    at false h = (let q : size_on (without A e) (suc k) + 0 ≡ size_on (without A e) (suc k) = omega arith in q)
        ∙ sum_on-same (without A e) A (suc k) (λ _. 1) (λ j jl. elim (nat_cases j e) [
          | inl q ↦ subst (λ i. without A e i ≡ A i) (sym q) (without-same A e ∙ sym h)
          | inr ne ↦ without-other A e j ne
        ])

skip-low : (v k : ℕ) → skip v k < v → skip v k ≡ k
skip-low v k l = grind (arith, nat_tests)

skip-high : (v k : ℕ) → v < skip v k → skip v k ≡ k + 1
skip-high v k l = grind (arith, nat_tests)

unskip-low : (e x : ℕ) → x < e → unskip e x ≡ x
unskip-low e x l = grind (arith, nat_tests)

unskip-high : (e x : ℕ) → e < x → unskip e x ≡ x - 1
unskip-high e x l = grind (arith, nat_tests)

module _ (A : ℕ → Bool) (n m e : ℕ) (at : ℕ → ℕ) (members : AreMembers A n at m) (el : e < n) where
  -- e stands in the list where it is a member
  pub index-below : A e ≡ true → size_on A e < m
  index-below h = omega (arith, size-later A e n el h, members.count)

  pub member-at : A e ≡ true → at (size_on A e) ≡ e
  member-at h = elim (order (at (size_on A e)) e) [
    | inl q ↦ q
    | inr o ↦ elim o [
      | inl less ↦ absurd (omega (
        arith,
        size-later A (at (size_on A e)) e less (members.member (size_on A e) (index-below h)),
        members.place (size_on A e) (index-below h),
      ))
      | inr more ↦ absurd (omega (arith, size-later A e (at (size_on A e)) more h, members.place (size_on A e) (index-below h)))
    ]
  ]

  pub gap-below : (k : ℕ) → k < m - one (A e) → gap (A e) (size_on A e) k < m
  gap-below k kl = go (A e) refl kl
    where
      go : (b : Bool) → A e ≡ b → k < m - one b → gap b (size_on A e) k < m
      go true h l = skip-below (size_on A e) k m (index-below h) l
      go false h l = omega arith

  pub gap-other : (k : ℕ) → k < m - one (A e) → at (gap (A e) (size_on A e) k) ≢ e
  gap-other k kl q = go (A e) refl kl q
    where
      go : (b : Bool) → A e ≡ b → k < m - one b → at (gap b (size_on A e) k) ≡ e → ⊥
      go true h l f = skip-other (size_on A e) k
          (sym (members.place (skip (size_on A e) k) (skip-below (size_on A e) k m (index-below h) l)) ∙ ap (λ i. size_on A i) f)
      go false h l f = differ h (ap A (sym f) ∙ members.member k (omega arith))

  place : (k : ℕ) → k < m - one (A e) → size_on (set_without e A) (unskip e (at (gap (A e) (size_on A e) k))) ≡ k
  place k kl = go (A e) refl kl (gap-below k kl) (gap-other k kl)
    where
      go : (b : Bool) → A e ≡ b → k < m - one b → gap b (size_on A e) k < m → at (gap b (size_on A e) k) ≢ e →
          size_on (set_without e A) (unskip e (at (gap b (size_on A e) k))) ≡ k
      go b h l gl ne = elim (order (at (gap b (size_on A e) k)) e) [
        | inl q ↦ absurd (ne q)
        | inr o ↦ elim o [
          | inl less ↦ ap (λ i. size_on (set_without e A) i) (unskip-low e (at (gap b (size_on A e) k)) less)
              ∙ size-before A e (at (gap b (size_on A e) k)) (omega arith) ∙ members.place (gap b (size_on A e) k) gl ∙ low b h gl less
          | inr more ↦ high b h gl more
        ]
      ]
        where
          low : (b : Bool) → A e ≡ b → gap b (size_on A e) k < m → at (gap b (size_on A e) k) < e → gap b (size_on A e) k ≡ k
          low true h gl less = skip-low (size_on A e) k (omega (
            arith,
            members.place (skip (size_on A e) k) gl,
            size-later A (at (skip (size_on A e) k)) e less (members.member (skip (size_on A e) k) gl),
          ))
          low false h gl less = refl

          from : (b : Bool) → A e ≡ b → (x : ℕ) → e < x → size_on (set_without e A) (x - 1) + one b ≡ size_on A x
          from b h x xl = ap (λ c. size_on (set_without e A) (x - 1) + one c) (sym h) ∙ size-from A e (x - 1) (omega arith)
              ∙ ap (λ i. size_on A i) (let q : suc (x - 1) ≡ x = omega arith in q)

          high : (b : Bool) → A e ≡ b → gap b (size_on A e) k < m → e < at (gap b (size_on A e) k) →
              size_on (set_without e A) (unskip e (at (gap b (size_on A e) k))) ≡ k
          high true h gl more = ap (λ i. size_on (set_without e A) i) (unskip-high e (at (skip (size_on A e) k)) more) ∙ omega (
            arith,
            from true h (at (skip (size_on A e) k)) more,
            members.place (skip (size_on A e) k) gl,
            skip-high (size_on A e) k (omega (arith, members.place (skip (size_on A e) k) gl, size-later A e (at (skip (size_on A e) k)) more h)),
          )
          high false h gl more = ap (λ i. size_on (set_without e A) i) (unskip-high e (at k) more) ∙ omega (
            arith,
            from false h (at k) more,
            members.place k gl,
          )

  pub left : AreMembers (set_without e A) (n - 1) (listed_without e A at) (m - one (A e))
  left = record {
    count = omega (arith, size-from A e (n - 1) (omega arith), ap (λ i. size_on A i) (let q : suc (n - 1) ≡ n = omega arith in q), members.count);
    below = λ k kl. unskip-below e (at (gap (A e) (size_on A e) k)) n el (members.below (gap (A e) (size_on A e) k) (gap-below k kl)) (gap-other k kl);
    member = λ k kl. ap A (skip-unskip e (at (gap (A e) (size_on A e) k)) (gap-other k kl)) ∙ members.member (gap (A e) (size_on A e) k) (gap-below k kl);
    place = place;
  }

-- a list of members is the only one
pub members-same : (A : ℕ → Bool) (n m l : ℕ) (at to : ℕ → ℕ) → AreMembers A n at m → AreMembers A n to l → (k : ℕ) → k < m → at k ≡ to k
members-same A n m l at to first second k kl = elim (order (at k) (to k)) [
  | inl q ↦ q
  | inr o ↦ elim o [
    | inl less ↦ absurd (omega (arith, size-later A (at k) (to k) less (first.member k kl), first.place k kl, second.place k below))
    | inr more ↦ absurd (omega (arith, size-later A (to k) (at k) more (second.member k below), first.place k kl, second.place k below))
  ]
]
  where
    below : k < l
    below = omega (arith, first.count, second.count)
