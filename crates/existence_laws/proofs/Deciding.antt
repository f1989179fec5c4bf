-- Facts that are decided: each holds, or does not.
use Rattle.std.proofs.Common.{◌≡◌, ℕ, zero, suc, ◌<◌, ◌≤◌, ◌⊎◌, Bool, true, false, inl, inr, refl, sym, subst, arith}
use Rattle.residue_theory.proofs.SetLaws.{differ, lt_cases, search_below}
use Rattle.residue_theory.proofs.SumLaws.{nat_cases}
use Rattle.closed_sets.specs.Walks.{Mutual, Reaches, ReachesOn, Walk}
use Rattle.closed_sets.proofs.Hulls.{reaches_or_not}

abbrev pub Decided : Type 0 → Type 0
Decided A = A ⊎ (A → ⊥)

-- ---- facts of facts
-- of two facts of which each gives the other, one is decided where the other is
pub moved : (A B : Type 0) → (A → B) → (B → A) → Decided A → Decided B
moved A B to from (inl a) = inl (to a)
moved A B to from (inr none) = inr (λ b. none (from b))

pub both : (A B : Type 0) → Decided A → Decided B → Decided (A × B)
both A B (inl a) (inl b) = inl (a, b)
both A B (inl a) (inr none) = inr (λ h. none h.1)
both A B (inr none) _ = inr (λ h. none h.0)

pub one_of : (A B : Type 0) → Decided A → Decided B → Decided (A ⊎ B)
one_of A B (inl a) _ = inl (inl a)
one_of A B (inr none) (inl b) = inl (inr b)
one_of A B (inr none) (inr neither) = inr (λ h. elim h [ inl a ↦ none a | inr b ↦ neither b ])

-- what is decided where its premise holds
pub implied : (A B : Type 0) → Decided A → (A → Decided B) → Decided (A → B)
implied A B (inl a) decide = go (decide a)
  where
    go : Decided B → Decided (A → B)
    go (inl b) = inl (λ _. b)
    go (inr none) = inr (λ h. none (h a))
implied A B (inr none) decide = inl (λ a. absurd (none a))

pub refuted : (A : Type 0) → Decided A → Decided (A → ⊥)
refuted A (inl a) = inr (λ none. none a)
refuted A (inr none) = inl none

-- ---- facts of tests and numbers
pub holds : (b : Bool) → Decided (b ≡ true)
holds true = inl refl
holds false = inr (λ h. differ refl h)

pub fails : (b : Bool) → Decided (b ≡ false)
fails true = inr (λ h. differ h refl)
fails false = inl refl

pub same_tests : (a b : Bool) → Decided (a ≡ b)
same_tests a true = holds a
same_tests a false = fails a

pub equal : (m n : ℕ) → Decided (m ≡ n)
equal = nat_cases

pub less : (m n : ℕ) → Decided (m < n)
less m n = elim (lt_cases m n) [ inl low ↦ inl low | inr high ↦ inr (λ low. absurd (omega (arith, low, high))) ]

pub at_most : (m n : ℕ) → Decided (m ≤ n)
at_most m n = elim (lt_cases n m) [ inl low ↦ inr (λ high. absurd (omega (arith, low, high))) | inr high ↦ inl high ]

-- ---- facts of each number below a bound, or of one
pub some_number : (n : ℕ) (P : ℕ → Type 0) → ((i : ℕ) → i < n → Decided (P i)) → Decided ((i : ℕ) × (i < n) × P i)
some_number n P decide = elim (search_below n P decide) [ inl found ↦ inl found | inr none ↦ inr (λ h. none h.0 h.1 h.2) ]

pub each_number : (n : ℕ) (P : ℕ → Type 0) → ((i : ℕ) → i < n → Decided (P i)) → Decided ((i : ℕ) → i < n → P i)
each_number n P decide = go (search_below n (λ i. P i → ⊥) (λ i low. refuted (P i) (decide i low)))
  where
    kept : ((i : ℕ) → i < n → (P i → ⊥) → ⊥) → (i : ℕ) → i < n → P i
    kept none i low = elim (decide i low) [ inl is ↦ is | inr never ↦ absurd (none i low never) ]

    go : ((i : ℕ) × (i < n) × (P i → ⊥)) ⊎ ((i : ℕ) → i < n → (P i → ⊥) → ⊥) → Decided ((i : ℕ) → i < n → P i)
    go (inl found) = inr (λ h. found.2 (h found.0 found.1))
    go (inr none) = inl (kept none)

pub each_pair : (m n : ℕ) (P : ℕ → ℕ → Type 0) → ((i j : ℕ) → i < m → j < n → Decided (P i j)) → Decided ((i j : ℕ) → i < m → j < n → P i j)
each_pair m n P decide = moved ((i : ℕ) → i < m → (j : ℕ) → j < n → P i j) ((i j : ℕ) → i < m → j < n → P i j)
    (λ h i j il jl. h i il j jl) (λ h i il j jl. h i j il jl)
    (each_number m (λ i. (j : ℕ) → j < n → P i j) (λ i il. each_number n (P i) (λ j jl. decide i j il jl)))

-- ---- facts of walks
-- a walk of one or more arcs begins below the bound
begins : (arc : ℕ → ℕ → Bool) (n x z k : ℕ) → z < n → Walk arc n x z k → x < n
begins arc n x z zero low e = subst (λ v. v < n) (sym e) low
begins arc n x z (suc k) low (y, yl, w, a) = begins arc n x y k yl w

pub reached_on : (arc : ℕ → ℕ → Bool) (n x y : ℕ) → Decided (ReachesOn arc n x y)
reached_on arc n x y = elim (lt_cases x n) [ inl low ↦ within low | inr high ↦ inr (λ h. beyond high h) ]
  where
    beyond : n ≤ x → ReachesOn arc n x y → ⊥
    beyond high (k, (z, zl, w, a)) = let low : x < n = begins arc n x z k zl w in omega (arith, low, high)

    last-arc : ReachesOn arc n x y → (z : ℕ) × (z < n) × (Reaches arc n x z × (arc z y ≡ true))
    last-arc (k, (z, zl, w, a)) = (z, zl, ((k, w), a))

    of-arc : (z : ℕ) × (z < n) × (Reaches arc n x z × (arc z y ≡ true)) → ReachesOn arc n x y
    of-arc (z, zl, (r, a)) = (r.0, (z, zl, r.1, a))

    within : x < n → Decided (ReachesOn arc n x y)
    within low = moved ((z : ℕ) × (z < n) × (Reaches arc n x z × (arc z y ≡ true))) (ReachesOn arc n x y) of-arc last-arc
        (some_number n (λ z. Reaches arc n x z × (arc z y ≡ true))
        (λ z zl. both (Reaches arc n x z) (arc z y ≡ true) (reaches_or_not arc n x z low zl) (holds (arc z y))))

pub reach_both : (arc : ℕ → ℕ → Bool) (n x y : ℕ) → x < n → y < n → Decided (Mutual arc n x y)
reach_both arc n x y xl yl = both (Reaches arc n x y) (Reaches arc n y x) (reaches_or_not arc n x y xl yl) (reaches_or_not arc n y x yl xl)
