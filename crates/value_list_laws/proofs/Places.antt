-- The places of a matrix by rising row and then column, and induction along them.
use Rattle.std.proofs.Common.{◌≡◌, ℕ, zero, suc, ◌<◌, ◌≤◌, Bool, true, false, eqb, ltb, ◌&&◌, ◌||◌, ◌⊎◌, inl, inr, refl}
use Rattle.std.proofs.Common.{ap, sym, subst, ◌∙◌, arith}
use Rattle.std.proofs.lemmas.Bool.Decides.{nat_tests}
use Rattle.residue_theory.proofs.SetLaws.{both-first, both-second, both_true, either-first, either-second, eqb_from}
use Rattle.residue_theory.proofs.SetLaws.{eqb_true}
use Rattle.residue_theory.proofs.SumLaws.{nat_cases}
use Rattle.value_list_laws.specs.ValueLists.{before}

less : (a b : ℕ) → ltb a b ≡ true → a < b
less a b h = grind (arith, nat_tests)

less_from : (a b : ℕ) → a < b → ltb a b ≡ true
less_from a b h = grind (arith, nat_tests)

not_less : (a b : ℕ) → ltb a b ≡ false → b ≤ a
not_less a b h = grind (arith, nat_tests)

pub before-row : (i j k l : ℕ) → k < i → before i j k l ≡ true
before-row i j k l h = either-first (ltb k i) (eqb k i && ltb l j) (less_from k i h)

pub before-column : (i j k l : ℕ) → k ≡ i → l < j → before i j k l ≡ true
before-column i j k l e h = either-second (ltb k i) (eqb k i && ltb l j) (both_true (eqb k i) (ltb l j) (eqb_from k i e) (less_from l j h))

pub before-cases : (i j k l : ℕ) → before i j k l ≡ true → (k < i) ⊎ ((k ≡ i) × (l < j))
before-cases i j k l h = go (ltb k i) refl
  where
    go : (b : Bool) → ltb k i ≡ b → (k < i) ⊎ ((k ≡ i) × (l < j))
    go true e = inl (less k i e)
    go false e = inr (eqb_true k i (both-first (eqb k i) (ltb l j) rest), less l j (both-second (eqb k i) (ltb l j) rest))
      where
        rest : eqb k i && ltb l j ≡ true
        rest = sym (ap (λ b. b || (eqb k i && ltb l j)) e) ∙ h

pub before-not_self : (i j : ℕ) → before i j i j ≡ false
before-not_self i j = grind (arith, nat_tests)

pub before-trans : (i j k l a b : ℕ) → before i j k l ≡ true → before k l a b ≡ true → before i j a b ≡ true
before-trans i j k l a b h g = elim (before-cases i j k l h) [
  | inl x ↦ elim (before-cases k l a b g) [
    | inl y ↦ before-row i j a b (omega arith)
    | inr y ↦ before-row i j a b (let e : a ≡ k = y.0 in omega arith)
  ]
  | inr x ↦ elim (before-cases k l a b g) [
    | inl y ↦ before-row i j a b (let e : k ≡ i = x.0 in omega arith)
    | inr y ↦ before-column i j a b (y.0 ∙ x.0) (let e : l < j = x.1 in let f : b < l = y.1 in omega arith)
  ]
]

-- before the next place of a row stands what was before, and the place itself
pub before-next : (i j k l : ℕ) → before i (suc j) k l ≡ true → (before i j k l ≡ true) ⊎ ((k ≡ i) × (l ≡ j))
before-next i j k l h = elim (before-cases i (suc j) k l h) [
  | inl x ↦ inl (before-row i j k l x)
  | inr x ↦ elim (nat_cases l j) [
    | inl q ↦ inr (x.0, q)
    | inr ne ↦ inl (before-column i j k l x.0 (let e : l < suc j = x.1 in omega arith))
  ]
]

-- before the start of the next row stands what was before the end of the row
pub before-turn : (n i k l : ℕ) → l < n → before (suc i) 0 k l ≡ true → before i n k l ≡ true
before-turn n i k l ll h = elim (before-cases (suc i) 0 k l h) [
  | inl x ↦ elim (nat_cases k i) [ inl q ↦ before-column i n k l q ll | inr ne ↦ before-row i n k l (omega arith) ]
  | inr x ↦ absurd (let e : l < 0 = x.1 in omega arith)
]

pub none-before : (k l : ℕ) → before 0 0 k l ≡ true → ⊥
none-before k l h = elim (before-cases 0 0 k l h) [
  | inl x ↦ (let e : k < 0 = x in omega arith)
  | inr x ↦ (let e : l < 0 = x.1 in omega arith)
]

-- ---- what holds at the start, and goes on from place to place and from row to row, holds at the end
module _ (m n : ℕ) (W : ℕ → ℕ → Type 0) (start : W 0 0)
    (step : (R C : ℕ) → R < m → C < n → W R C → W R (suc C)) (turn : (R : ℕ) → R < m → W R n → W (suc R) 0) where
  along : (R : ℕ) → R < m → (C : ℕ) → C ≤ n → W R 0 → W R C
  along R rl zero le s = s
  along R rl (suc C) le s = step R C rl (omega arith) (along R rl C (omega arith) s)

  down : (R : ℕ) → R ≤ m → W R 0
  down zero le = start
  down (suc R) le = turn R (omega arith) (along R (omega arith) n (omega arith) (down R (omega arith)))

  pub walk : W m 0
  walk = down m (omega arith)

-- ---- what holds at a place where it holds at all places before holds at each
pub each_place : (m n : ℕ) (P : ℕ → ℕ → Type 0) →
    ((i j : ℕ) → i < m → j < n → ((k l : ℕ) → k < m → l < n → before i j k l ≡ true → P k l) → P i j) →
    (i j : ℕ) → i < m → j < n → P i j
each_place m n P step i j il jl = walk m n Done (λ k l _ _ h. absurd (none-before k l h)) next turn i j il jl (before-row m 0 i j il)
  where
    Done : ℕ → ℕ → Type 0
    Done R C = (k l : ℕ) → k < m → l < n → before R C k l ≡ true → P k l

    next : (R C : ℕ) → R < m → C < n → Done R C → Done R (suc C)
    next R C rl cl done k l kl ll h = elim (before-next R C k l h) [
      | inl earlier ↦ done k l kl ll earlier
      | inr q ↦ subst (λ x. P x l) (sym q.0) (subst (λ y. P R y) (sym q.1) (step R C rl cl done))
    ]

    turn : (R : ℕ) → R < m → Done R n → Done (suc R) 0
    turn R rl done k l kl ll h = done k l kl ll (before-turn n R k l ll h)
