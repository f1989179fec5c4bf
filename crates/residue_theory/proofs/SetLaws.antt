-- Members of sets: tests and their parts, one member more or less, the search for a member, and a choice for each.
use Rattle.std.proofs.Common.{◌≡◌, ℕ, zero, suc, ◌<◌, ◌≤◌, ◌≢◌, Bool, true, false, ◌&&◌, ◌||◌, eqb, ◌⊎◌, inl, inr, refl, sym, subst, ◌∙◌, arith}
use Rattle.std.proofs.lemmas.Bool.Decides.{nat_tests}
use Rattle.residue_theory.specs.Sets.{everything, without, with_one, some_below}
use Rattle.residue_theory.proofs.SumLaws.{nat_cases, without-same}

-- ---- tests
-- a test does not answer both
pub differ : {b : Bool} → b ≡ false → b ≡ true → ⊥
differ e h = cc

pub not_true : (b : Bool) → (b ≡ true → ⊥) → b ≡ false
not_true true h = absurd (h refl)
not_true false h = refl

pub lt_cases : (j n : ℕ) → (j < n) ⊎ (n ≤ j)
lt_cases j n = grind arith

pub zero_cases : (x : ℕ) → (x ≡ 0) ⊎ (x ≢ 0)
zero_cases x = grind arith

-- two numbers in order are the same, or one is less
pub le_cases : (x y : ℕ) → x ≤ y → (x ≡ y) ⊎ (x < y)
le_cases x y le = grind arith

pub both_true : (a b : Bool) → a ≡ true → b ≡ true → a && b ≡ true
both_true a b h k = grind arith

pub both-first : (a b : Bool) → a && b ≡ true → a ≡ true
both-first a b h = grind arith

pub both-second : (a b : Bool) → a && b ≡ true → b ≡ true
both-second a b h = grind arith

pub both-refused : (a b : Bool) → a && b ≡ false → a ≡ true → b ≡ false
both-refused a b h k = grind arith

pub either_cases : (a b : Bool) → a || b ≡ true → (a ≡ true) ⊎ (b ≡ true)
either_cases true b h = inl refl
either_cases false b h = inr h

pub either-first : (a b : Bool) → a ≡ true → a || b ≡ true
either-first a b h = grind arith

pub either-second : (a b : Bool) → b ≡ true → a || b ≡ true
either-second a b h = grind arith

pub eqb_true : (r i : ℕ) → eqb r i ≡ true → r ≡ i
eqb_true r i h = grind (arith, nat_tests)

pub eqb_false : (r i : ℕ) → eqb r i ≡ false → r ≢ i
eqb_false r i h = grind (arith, nat_tests)

pub eqb_from : (r i : ℕ) → r ≡ i → eqb r i ≡ true
eqb_from r i q = grind (arith, nat_tests)

-- ---- one member more
pub with_one-member : (X : ℕ → Bool) (v j : ℕ) → X j ≡ true → with_one X v j ≡ true
with_one-member X v j h = grind (arith, nat_tests)

pub with_one-new : (X : ℕ → Bool) (v : ℕ) → with_one X v v ≡ true
with_one-new X v = grind (arith, nat_tests)

pub with_one-other : (X : ℕ → Bool) (v j : ℕ) → with_one X v j ≡ true → j ≢ v → X j ≡ true
with_one-other X v j h ne = grind (arith, nat_tests)

pub with_one-without : (X : ℕ → Bool) (v j : ℕ) → X v ≡ false → without (with_one X v) v j ≡ X j
with_one-without X v j h = elim (nat_cases j v) [
  | inl q ↦ subst (λ k. without (with_one X v) v k ≡ X k) (sym q)
      (without-same (with_one X v) v ∙ sym h)
  | inr ne ↦ grind (arith, nat_tests)
]

-- ---- the search for a member
pub first_on : (P : ℕ → Bool) (n : ℕ) → ((j : ℕ) × (j < n) × (P j ≡ true)) ⊎ ((j : ℕ) → j < n → P j ≡ false)
first_on P zero = inr (λ j l. absurd (omega arith))
first_on P (suc n) = go (P n) refl (first_on P n)
  where
    go : (b : Bool) → P n ≡ b → ((j : ℕ) × (j < n) × (P j ≡ true)) ⊎ ((j : ℕ) → j < n → P j ≡ false) →
        ((j : ℕ) × (j < suc n) × (P j ≡ true)) ⊎ ((j : ℕ) → j < suc n → P j ≡ false)
    go true e before = inl (n, omega arith, e)
    go false e (inl (j, l, h)) = inl (j, omega arith, h)
    go false e (inr none) = inr (λ j l. below_suc j l)
      where
        below_suc : (j : ℕ) → j < suc n → P j ≡ false
        below_suc j l = elim (nat_cases n j) [ inl q ↦ subst (λ w. P w ≡ false) q e | inr ne ↦ none j (omega arith) ]

pub some_below-found : (n : ℕ) (X : ℕ → Bool) → some_below n X ≡ true → (j : ℕ) × (j < n) × (X j ≡ true)
some_below-found zero X h = absurd (differ refl h)
some_below-found (suc n) X h = go (X n) refl (λ e. some_below-found n X e)
  where
    earlier : (a b : Bool) → a || b ≡ true → b ≡ false → a ≡ true
    earlier a b x y = grind arith

    go : (b : Bool) → X n ≡ b → (some_below n X ≡ true → (j : ℕ) × (j < n) × (X j ≡ true)) → (j : ℕ) × (j < suc n) × (X j ≡ true)
    go true e ih = (n, omega arith, e)
    go false e ih = let f : (j : ℕ) × (j < n) × (X j ≡ true) = ih (earlier (some_below n X) (X n) h e) in (f.0, (let l : f.0 < n = f.1 in omega arith), f.2)

pub some_below-holds : (n : ℕ) (X : ℕ → Bool) (j : ℕ) → j < n → X j ≡ true → some_below n X ≡ true
some_below-holds zero X j l h = absurd (omega arith)
some_below-holds (suc n) X j l h = elim (nat_cases j n) [
  | inl q ↦ either-second (some_below n X) (X n) (subst (λ k. X k ≡ true) q h)
  | inr ne ↦ either-first (some_below n X) (X n) (some_below-holds n X j (omega arith) h)
]

-- ---- a choice
-- of anything, for each member of X below n
module _ (n : ℕ) (X : ℕ → Bool) (K : Type 0) (default : K) (P : ℕ → K → Type 0) (each : (j : ℕ) → j < n → X j ≡ true → (a : K) × P j a) where
  picked : (j : ℕ) (b : Bool) → X j ≡ b → (j < n) ⊎ (n ≤ j) → K
  picked j true e (inl l) = (each j l e).0
  picked j true e (inr _) = default
  picked j false e d = default

  picked-ok : (j : ℕ) (b : Bool) (e : X j ≡ b) (d : (j < n) ⊎ (n ≤ j)) → j < n → X j ≡ true → P j (picked j b e d)
  unfolding picked
  picked-ok j true e (inl l) _ _ = (each j l e).1
  picked-ok j true e (inr g) l _ = absurd (omega arith)
  picked-ok j false e d l h = absurd (differ e h)

  pub choose_on : (f : ℕ → K) × ((j : ℕ) → j < n → X j ≡ true → P j (f j))
  choose_on = ((λ j. picked j (X j) refl (lt_cases j n)), (λ j l h. picked-ok j (X j) refl (lt_cases j n) l h))

-- of coefficients, for each member of X below n
pub choice : (n : ℕ) (X : ℕ → Bool) (P : ℕ → (ℕ → ℕ) → Type 0) → ((j : ℕ) → j < n → X j ≡ true → (c : ℕ → ℕ) × P j c) →
    (D : ℕ → ℕ → ℕ) × ((j : ℕ) → j < n → X j ≡ true → P j (D j))
choice n X P each = choose_on n X (ℕ → ℕ) (λ _. 0) P each

-- of anything, for each number below n
pub choose : (n : ℕ) (K : Type 0) (default : K) (P : ℕ → K → Type 0) → ((j : ℕ) → j < n → (a : K) × P j a) → (f : ℕ → K) × ((j : ℕ) → j < n → P j (f j))
choose n K default P each = all (choose_on n everything K default P (λ j l _. each j l))
  where
    all : (f : ℕ → K) × ((j : ℕ) → j < n → everything j ≡ true → P j (f j)) → (f : ℕ → K) × ((j : ℕ) → j < n → P j (f j))
    all (f, ok) = (f, λ j l. ok j l refl)

-- where each number below n has a property or lacks it, one has it or none has
pub search_below : (n : ℕ) (P : ℕ → Type 0) → ((k : ℕ) → k < n → P k ⊎ (P k → ⊥)) → ((k : ℕ) × (k < n) × P k) ⊎ ((k : ℕ) → k < n → P k → ⊥)
search_below zero P each = inr (λ k l. absurd (omega arith))
search_below (suc n) P each = go (each n (omega arith)) (search_below n P (λ k l. each k (omega arith)))
  where
    go : P n ⊎ (P n → ⊥) → ((k : ℕ) × (k < n) × P k) ⊎ ((k : ℕ) → k < n → P k → ⊥) → ((k : ℕ) × (k < suc n) × P k) ⊎ ((k : ℕ) → k < suc n → P k → ⊥)
    go (inl h) before = inl (n, omega arith, h)
    go (inr no_last) (inl (k, l, h)) = inl (k, omega arith, h)
    go (inr no_last) (inr none) = inr (λ k l h. elim (nat_cases k n) [ inl q ↦ no_last (subst P q h) | inr ne ↦ none k (omega arith) h ])
