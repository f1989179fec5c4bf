-- Searching and counting below a bound.
use Rattle.std.proofs.Common.{◌≡◌, ℕ, zero, suc, ◌<◌, ◌≤◌, ◌≢◌, Bool, true, false, ◌⊎◌, inl, inr, refl, subst, ◌&&◌, not, arith}
use Rattle.residue_theory.specs.Sets.{with_one, IsWithin}
use Rattle.residue_theory.specs.Sums.{size_on}
use Rattle.residue_theory.proofs.SumLaws.{nat_cases, size_on-within}
use Rattle.std.proofs.lemmas.Bool.Decides.{nat_tests}

pub test_cases : (b : Bool) → (b ≡ true) ⊎ (b ≡ false)
test_cases b = elim b as (λ v. (v ≡ true) ⊎ (v ≡ false)) [ true ↦ inl refl | false ↦ inr refl ]

pub size_on-bound : (X : ℕ → Bool) (n : ℕ) → size_on X n ≤ n
size_on-bound X zero = omega arith
size_on-bound X (suc n) = grind (arith, size_on-bound X n)

-- Y is within X, and X has a member that Y has not
pub size_on-less : (X Y : ℕ → Bool) (n v : ℕ) → IsWithin n Y X → v < n → X v ≡ true → Y v ≡ false → size_on Y n < size_on X n
size_on-less X Y zero v h l xv yv = absurd (omega arith)
size_on-less X Y (suc n) v h l xv yv = go (nat_cases v n) (λ less. size_on-less X Y n v (λ j jl. h j (omega arith)) less xv yv)
  where
    go : (v ≡ n) ⊎ (v ≢ n) → (v < n → size_on Y n < size_on X n) → size_on Y (suc n) < size_on X (suc n)
    go (inl q) _ = grind (arith, size_on-within X Y n (λ j jl. h j (omega arith)), subst (λ w. X w ≡ true) q xv, subst (λ w. Y w ≡ false) q yv)
    go (inr ne) ih = grind (arith, ih, h n (omega arith))

pub with_one-split : (X : ℕ → Bool) (v j : ℕ) → with_one X v j ≡ true → (j ≡ v) ⊎ (X j ≡ true)
with_one-split X v j h = grind (arith, nat_tests)

pub and-both : (a b : Bool) → (a && b) ≡ true → (a ≡ true) × (b ≡ true)
and-both a b h = grind arith

pub not-true : (a : Bool) → not a ≡ true → a ≡ false
not-true a h = grind arith

pub not-false : (a : Bool) → not a ≡ false → a ≡ true
not-false a h = grind arith

pub not-make : (a : Bool) → a ≡ false → not a ≡ true
not-make a h = grind arith

-- the least number of which a fact that is decided below n holds, or it holds of none
pub least_of : (P : ℕ → Type 0) (n : ℕ) → ((x : ℕ) → x < n → P x ⊎ (P x → ⊥)) →
    ((k : ℕ) × (k < n) × P k × ((j : ℕ) → j < k → P j → ⊥)) ⊎ ((k : ℕ) → k < n → P k → ⊥)
least_of P zero decide = inr (λ k l. absurd (omega arith))
least_of P (suc n) decide = go (least_of P n (λ x l. decide x (omega arith))) (decide n (omega arith))
  where
    go : ((k : ℕ) × (k < n) × P k × ((j : ℕ) → j < k → P j → ⊥)) ⊎ ((k : ℕ) → k < n → P k → ⊥) → P n ⊎ (P n → ⊥) →
        ((k : ℕ) × (k < suc n) × P k × ((j : ℕ) → j < k → P j → ⊥)) ⊎ ((k : ℕ) → k < suc n → P k → ⊥)
    go (inl (k, l, h, before)) _ = inl (k, omega arith, h, before)
    go (inr none) (inl h) = inl (n, omega arith, h, none)
    go (inr none) (inr never) = inr (λ k l h. elim (nat_cases k n) [ inl q ↦ never (subst P q h) | inr ne ↦ none k (omega arith) h ])
