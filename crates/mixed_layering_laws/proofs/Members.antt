-- The members of a set, listed in order, and their places in the list.
use Rattle.std.proofs.Common.{◌≡◌, ℕ, zero, suc, ◌+◌, ◌<◌, Bool, true, cond, ◌⊎◌, inl, inr, ap, sym, subst, ◌∙◌, arith}
use Rattle.residue_theory.proofs.SumLaws.{nat_cases}
use Rattle.residue_theory.specs.Sums.{size_on}
use Rattle.mixed_matrices.specs.Layerings.{AreMembers}

-- a member is counted from its successor on
pub size-later : (A : ℕ → Bool) (e n : ℕ) → e < n → A e ≡ true → size_on A e < size_on A n
size-later A e zero l h = absurd (omega arith)
size-later A e (suc n) l h = elim (nat_cases e n) [
  | inl q ↦ subst (λ k. size_on A k < size_on A n + cond (A n) 1 0) (sym q) (here (A n) (subst (λ k. A k ≡ true) q h))
  | inr ne ↦ omega (arith, size-later A e n (omega arith) h)
]
  where
    here : (b : Bool) → b ≡ true → size_on A n < size_on A n + cond b 1 0
    here b x = grind arith

order : (a b : ℕ) → (a ≡ b) ⊎ ((a < b) ⊎ (b < a))
order a b = grind arith

module _ (A : ℕ → Bool) (n : ℕ) (at : ℕ → ℕ) (m : ℕ) (members : AreMembers A n at m) where
  -- each member stands in the list
  pub member-index : (e : ℕ) → e < n → A e ≡ true → size_on A e < m
  member-index e l h = omega (arith, size-later A e n l h, members.count)

  pub member-at : (e : ℕ) → e < n → A e ≡ true → at (size_on A e) ≡ e
  member-at e l h = elim (order (at (size_on A e)) e) [
    | inl q ↦ q
    | inr o ↦ elim o [
      | inl less ↦ absurd (omega (
        arith,
        size-later A (at (size_on A e)) e less (members.member (size_on A e) (member-index e l h)),
        members.place
            (size_on A e) (member-index e l h),
      ))
      | inr more ↦ absurd (omega (arith, size-later A e (at (size_on A e)) more h, members.place (size_on A e) (member-index e l h)))
    ]
  ]

  pub members-distinct : (j k : ℕ) → j < m → k < m → at j ≡ at k → j ≡ k
  members-distinct j k jl kl q = sym (members.place j jl) ∙ ap (λ e. size_on A e) q ∙ members.place k kl
