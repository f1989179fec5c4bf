-- Combinations of columns, and the one rank that each set of columns has.
use Rattle.std.proofs.Common.{◌≡◌, ℕ, zero, suc, ◌+◌, ◌*◌, ◌%◌, ◌<◌, ◌≤◌, ◌≢◌, Bool, true, false, cond, eqb, ◌⊎◌, inl, inr, refl, ap, sym, subst, ◌∙◌, arith}
use Rattle.residue_theory.specs.Sets.{without, with_one, everything, IsWithin}
use Rattle.std.proofs.lemmas.Bool.Decides.{nat_tests}
use Rattle.residue_theory.specs.Sums.{sum_on, size_on}
use Rattle.residue_theory.specs.Residues.{IsPrime}
use Rattle.linear_algebra.specs.Columns.{IsIndependent, IsRank, Combines, IsCombination}
use Rattle.residue_theory.proofs.SumLaws.{sum_on-mul, sum_on-ext, sum_on-swap, sum_on-within, sum_on-none, sum_on-without, nat_cases, without-member}
use Rattle.residue_theory.proofs.SetLaws.{differ, lt_cases, with_one-member, with_one-new, with_one-other, choice}
use Rattle.residue_theory.proofs.CountLaws.{sum-with_one}
use Rattle.residue_theory.proofs.ResidueLaws.{vanishes-mul, vanishes-sum, vanishes_by, vanishes-rest, agree-mul, agree-sum}
use Rattle.residue_theory.proofs.ResidueLaws.{agree_of, negative_inverse, HasNegativeInverse}
use Rattle.linear_algebra_laws.proofs.Elimination.{Dichotomy, dichotomy}

-- ---- combinations
-- a combination of combinations vanishes where their coefficients do
module _ (p m n : ℕ) (a : ℕ → ℕ → ℕ) (I Y : ℕ → Bool) (c : ℕ → ℕ) (D : ℕ → ℕ → ℕ) where
  pub regroup : (t : ℕ) → sum_on Y n (λ j. c j * sum_on I n (λ i. D j i * a t i)) ≡ sum_on I n (λ i. a t i * sum_on Y n (λ j. c j * D j i))
  regroup t =
      sum_on-ext Y n (λ j. c j * sum_on I n (λ i. D j i * a t i)) (λ j. sum_on I n (λ i. c j * (D j i * a t i)))
      (λ j _ _. sym (sum_on-mul I n (c j) (λ i. D j i * a t i)))
      ∙ sum_on-swap Y I n n (λ i j. c j * (D j i * a t i))
      ∙ sum_on-ext I n (λ i. sum_on Y n (λ j. c j * (D j i * a t i))) (λ i. a t i * sum_on Y n (λ j. c j * D j i)) (λ i _ _. one_column t i)
    where
      one_column : (t i : ℕ) → sum_on Y n (λ j. c j * (D j i * a t i)) ≡ a t i * sum_on Y n (λ j. c j * D j i)
      one_column t i = sum_on-ext Y n (λ j. c j * (D j i * a t i)) (λ j. a t i * (c j * D j i)) (λ j _ _. omega arith)
          ∙ sum_on-mul Y n (a t i) (λ j. c j * D j i)

  pub combined : ((i : ℕ) → i < n → I i ≡ true → sum_on Y n (λ j. c j * D j i) % p ≡ 0) →
      ((j : ℕ) → j < n → Y j ≡ true → (t : ℕ) → t < m → sum_on I n (λ i. D j i * a t i) % p ≡ a t j % p) →
      (t : ℕ) → t < m → sum_on Y n (λ j. c j * a t j) % p ≡ 0
  combined zeros combs t l =
      sym (agree-sum p Y n (λ j. c j * sum_on I n (λ i. D j i * a t i)) (λ j. c j * a t j)
      (λ j jl jh. agree-mul p (c j) (sum_on I n (λ i. D j i * a t i)) (a t j) (combs j jl jh t l)))
      ∙ ap (λ s. s % p) (regroup t)
      ∙ vanishes-sum p I n (λ i. a t i * sum_on Y n (λ j. c j * D j i)) (λ i il ih. vanishes-mul p (a t i) (sum_on Y n (λ j. c j * D j i)) (zeros i il ih))

-- no independent set of combinations of I is larger than I
pub size_on-combinations : (p : ℕ) → IsPrime p → (a : ℕ → ℕ → ℕ) (m n : ℕ) (I Y : ℕ → Bool) →
    ((j : ℕ) → j < n → Y j ≡ true → IsCombination p a m n I j) → IsIndependent p a m n Y → size_on Y n ≤ size_on I n
size_on-combinations p prime a m n I Y combs ind = go (choice n Y (λ j c. (i : ℕ) → i < m → sum_on I n (λ k. c k * a i k) % p ≡ a i j % p) combs)
  where
    go : (D : ℕ → ℕ → ℕ) × ((j : ℕ) → j < n → Y j ≡ true → (i : ℕ) → i < m → sum_on I n (λ k. D j k * a i k) % p ≡ a i j % p) → size_on Y n ≤ size_on I n
    go (D, ok) = elim (dichotomy p prime I n n (λ i j. D j i) Y) [
      | inl both_facts ↦ both_facts.1
      | inr s ↦ absurd (s.non_zero (ind s.at (combined p m n a I Y s.at D s.solves ok) s.place s.below s.member))
    ]

-- a set that combines to every column of X has the size of the rank, if it is independent
pub rank_of-basis : (p : ℕ) → IsPrime p → (a : ℕ → ℕ → ℕ) (m n : ℕ) (X I : ℕ → Bool) → IsWithin n I X → IsIndependent p a m n I →
    ((j : ℕ) → j < n → X j ≡ true → IsCombination p a m n I j) → IsRank p a m n X (size_on I n)
rank_of-basis p prime a m n X I within ind combs = record {
  reached = (I, within, ind, refl);
  greatest = λ Y inside free. size_on-combinations p prime a m n I Y (λ j l h. combs j l (inside j l h)) free;
}

pub rank-unique : (p : ℕ) (a : ℕ → ℕ → ℕ) (m n : ℕ) (X : ℕ → Bool) (r s : ℕ) → IsRank p a m n X r → IsRank p a m n X s → r ≡ s
rank-unique p a m n X r s R S = omega (
  arith,
  (R.reached).3,
  (S.reached).3,
  R.greatest (S.reached).0 (S.reached).1 (S.reached).2,
  S.greatest (R.reached).0
      (R.reached).1 (R.reached).2,
)

-- ---- one more column
-- a solution on I and v whose coefficient at v is not zero gives v as a combination of I
solved_for : (p m n : ℕ) (a : ℕ → ℕ → ℕ) (I : ℕ → Bool) (v : ℕ) → IsPrime p → (c : ℕ → ℕ) → c v % p ≢ 0 →
    ((i : ℕ) → i < m → (sum_on I n (λ j. c j * a i j) + c v * a i v) % p ≡ 0) → IsCombination p a m n I v
solved_for p m n a I v prime c ne eq = go (negative_inverse p prime (c v) ne)
  where
    go : HasNegativeInverse p (c v) → IsCombination p a m n I v
    go (w, h) = (
      (λ j. w * c j),
      λ i l. ap (λ s. s % p) (scaled i) ∙ agree_of p (w * sum_on I n (λ j. c j * a i j)) (w * (c v * a i v)) (a i v)
          (vanishes_by p _ (w * (sum_on I n (λ j. c j * a i j) + c v * a i v)) (omega arith)
          (vanishes-mul p w (sum_on I n (λ j. c j * a i j) + c v * a i v) (eq i l)))
          (vanishes_by p _ (a i v * (c v * w + 1)) (omega arith) (vanishes-mul p (a i v) (c v * w + 1) h)),
    )
      where
        scaled : (i : ℕ) → sum_on I n (λ j. w * c j * a i j) ≡ w * sum_on I n (λ j. c j * a i j)
        scaled i = sum_on-ext I n (λ j. w * c j * a i j) (λ j. w * (c j * a i j)) (λ j _ _. omega arith) ∙ sum_on-mul I n w (λ j. c j * a i j)

-- a column is a combination of an independent set, or may join it
pub join_or_combination : (p : ℕ) → IsPrime p → (a : ℕ → ℕ → ℕ) (m n : ℕ) (I : ℕ → Bool) (v : ℕ) → v < n → I v ≡ false → IsIndependent p a m n I →
    IsIndependent p a m n (with_one I v) ⊎ IsCombination p a m n I v
join_or_combination p prime a m n I v l e ind = go (dichotomy p prime everything n m a (with_one I v))
  where
    sums : (c : ℕ → ℕ) (i : ℕ) → sum_on (with_one I v) n (λ j. c j * a i j) ≡ sum_on I n (λ j. c j * a i j) + c v * a i v
    sums c i = sum-with_one I n v (λ j. c j * a i j) l e

    go : Dichotomy p a everything m (with_one I v) n → IsIndependent p a m n (with_one I v) ⊎ IsCombination p a m n I v
    go (inl (only, _)) = inl (λ c s. only c (λ i il _. s i il))
    go (inr s) = inr (solved_for p m n a I v prime s.at at_v (λ i il. vanishes_by p _ _ (sym (sums s.at i)) (s.solves i il refl)))
      where
        at_v : s.at v % p ≢ 0
        at_v z = elim (nat_cases s.place v) [
          | inl q ↦ s.non_zero (ap (λ k. s.at k % p) q ∙ z)
          | inr ne ↦ s.non_zero (ind s.at (λ i il. vanishes-rest p (s.at v * a i v) (sum_on I n (λ j. s.at j * a i j))
              (vanishes_by p _ (sum_on (with_one I v) n (λ j. s.at j * a i j)) (omega (arith, sums s.at i)) (s.solves i il refl))
              (vanishes_by p _ (a i v * s.at v) (omega arith) (vanishes-mul p (a i v) (s.at v) z))) s.place s.below (with_one-other I v s.place s.member ne))
        ]

-- a member is a combination of its set
pub combination-member : (p : ℕ) (a : ℕ → ℕ → ℕ) (m n : ℕ) (I : ℕ → Bool) (v : ℕ) → v < n → I v ≡ true → IsCombination p a m n I v
combination-member p a m n I v l h = (
  (λ j. cond (eqb j v) 1 0),
  λ i _. ap (λ s. s % p)
      (sum_on-without I n v (λ j. cond (eqb j v) 1 0 * a i j) l h ∙ ap (λ s. s + cond (eqb v v) 1 0 * a i v) (others i) ∙ at_v i),
)
  where
    others : (i : ℕ) → sum_on (without I v) n (λ j. cond (eqb j v) 1 0 * a i j) ≡ 0
    others i = sum_on-ext (without I v) n (λ j. cond (eqb j v) 1 0 * a i j) (λ _. 0)
        (λ j _ q. let ne : j ≢ v = (without-member I v j q).1 in grind (arith, nat_tests)) ∙ sum_on-none (without I v) n

    at_v : (i : ℕ) → 0 + cond (eqb v v) 1 0 * a i v ≡ a i v
    at_v i = grind (arith, nat_tests)

-- a combination of part of a set is one of the set
pub combines-within : (p m n : ℕ) (a : ℕ → ℕ → ℕ) (I J : ℕ → Bool) (x : ℕ → ℕ) → IsWithin n I J → Combines p a m n I x → Combines p a m n J x
combines-within p m n a I J x within (c, s) = ((λ j. cond (I j) (c j) 0), λ i l. ap (λ s. s % p) (only_I i) ∙ s i l)
  where
    pulled : (b : Bool) (x y : ℕ) → cond b x 0 * y ≡ cond b (x * y) 0
    pulled b x y = grind arith

    only_I : (i : ℕ) → sum_on J n (λ j. cond (I j) (c j) 0 * a i j) ≡ sum_on I n (λ j. c j * a i j)
    only_I i = sum_on-ext J n (λ j. cond (I j) (c j) 0 * a i j) (λ j. cond (I j) (c j * a i j) 0) (λ j _ _. pulled (I j) (c j) (a i j))
        ∙ sum_on-within J I n (λ j. c j * a i j) within

pub combination-within : (p : ℕ) (a : ℕ → ℕ → ℕ) (m n : ℕ) (I J : ℕ → Bool) (v : ℕ) → IsWithin n I J → IsCombination p a m n I v → IsCombination p a m n J v
combination-within p a m n I J v within comb = combines-within p m n a I J (λ i. a i v) within comb

-- a column that is no combination of an independent set may join it
pub with_one-independent : (p : ℕ) → IsPrime p → (a : ℕ → ℕ → ℕ) (m n : ℕ) (I : ℕ → Bool) (v : ℕ) → v < n → IsIndependent p a m n I →
    (IsCombination p a m n I v → ⊥) → IsIndependent p a m n (with_one I v)
with_one-independent p prime a m n I v l ind never = go (I v) refl
  where
    go : (b : Bool) → I v ≡ b → IsIndependent p a m n (with_one I v)
    go true e = absurd (never (combination-member p a m n I v l e))
    go false e = elim (join_or_combination p prime a m n I v l e ind) [ inl joined ↦ joined | inr comb ↦ absurd (never comb) ]

-- what the columns of X combine to, any set combines to that combines to each of them
pub combines-through : (p m n : ℕ) (a : ℕ → ℕ → ℕ) (I X : ℕ → Bool) (x : ℕ → ℕ) →
    ((j : ℕ) → j < n → X j ≡ true → IsCombination p a m n I j) → Combines p a m n X x →
    Combines p a m n I x
combines-through p m n a I X x combs (c, s) = go (choice n X (λ j d. (i : ℕ) → i < m → sum_on I n (λ k. d k * a i k) % p ≡ a i j % p) combs)
  where
    go : (D : ℕ → ℕ → ℕ) × ((j : ℕ) → j < n → X j ≡ true → (i : ℕ) → i < m → sum_on I n (λ k. D j k * a i k) % p ≡ a i j % p) → Combines p a m n I x
    go (D, ok) = (
      (λ k. sum_on X n (λ j. c j * D j k)),
      λ i il.
          ap (λ y. y % p) (sum_on-ext I n (λ k. sum_on X n (λ j. c j * D j k) * a i k) (λ k. a i k * sum_on X n (λ j. c j * D j k)) (λ k _ _. omega arith)
          ∙ sym (regroup p m n a I X c D i))
          ∙ agree-sum p X n (λ j. c j * sum_on I n (λ k. D j k * a i k)) (λ j. c j * a i j)
          (λ j jl jh. agree-mul p (c j) (sum_on I n (λ k. D j k * a i k)) (a i j) (ok j jl jh i il))
          ∙ s i il,
    )

-- a part of X that is as large as its rank, and independent, combines to each column of X
pub combination_of-largest : (p : ℕ) → IsPrime p → (a : ℕ → ℕ → ℕ) (m n : ℕ) (X I : ℕ → Bool) → IsWithin n I X →
    IsIndependent p a m n I → IsRank p a m n X (size_on I n) →
    (v : ℕ) → v < n → X v ≡ true → IsCombination p a m n I v
combination_of-largest p prime a m n X I within ind R v vl vh = go (I v) refl
  where
    joined : I v ≡ false → IsIndependent p a m n (with_one I v) → ⊥
    joined h free = omega (
      arith,
      sum-with_one I n v (λ _. 1) vl h,
      R.greatest (with_one I v)
          (λ j jl jh. elim (nat_cases j v)
          [ inl q ↦ subst (λ k. X k ≡ true) (sym q) vh | inr ne ↦ within j jl (with_one-other I v j jh ne) ]) free,
    )

    go : (b : Bool) → I v ≡ b → IsCombination p a m n I v
    go true h = combination-member p a m n I v vl h
    go false h = elim (join_or_combination p prime a m n I v vl h ind) [ inl free ↦ absurd (joined h free) | inr comb ↦ comb ]

-- ---- each set of columns has a rank
-- an independent part of X that combines to each of its columns below k, and keeps the members of Z
pub record Basis (p : ℕ) (a : ℕ → ℕ → ℕ) (m n k : ℕ) (X Z : ℕ → Bool) : Type 0 where
  pub I : ℕ → Bool
  pub keeps : IsWithin n Z I
  pub within : IsWithin n I X
  pub independent : IsIndependent p a m n I
  pub spans : (j : ℕ) → j < n → j < k → X j ≡ true → IsCombination p a m n I j

pub basis : (p : ℕ) → IsPrime p → (a : ℕ → ℕ → ℕ) (m n : ℕ) (X Z : ℕ → Bool) → IsWithin n Z X → IsIndependent p a m n Z → (k : ℕ) → Basis p a m n k X Z
basis p prime a m n X Z inside free zero = record {
  I = Z;
  keeps = λ j l h. h;
  within = inside;
  independent = free;
  spans = λ j l none h. absurd (omega arith);
}
basis p prime a m n X Z inside free (suc k) = go (X k) refl (lt_cases k n) (basis p prime a m n X Z inside free k)
  where
    same : (B : Basis p a m n k X Z) → (k < n → X k ≡ true → IsCombination p a m n B.I k) → Basis p a m n (suc k) X Z
    same B last = record {
      I = B.I;
      keeps = B.keeps;
      within = B.within;
      independent = B.independent;
      spans = λ j l below h. elim (nat_cases j k) [
        | inl q ↦ subst (λ x. IsCombination p a m n B.I x) (sym q) (last (subst (λ x. x < n) q l) (subst (λ x. X x ≡ true) q h))
        | inr ne ↦ B.spans j l (omega arith) h
      ];
    }

    grown : (B : Basis p a m n k X Z) → k < n → X k ≡ true → IsIndependent p a m n (with_one B.I k) → Basis p a m n (suc k) X Z
    grown B l h ind = record {
      I = with_one B.I k;
      keeps = λ j jl jh. with_one-member B.I k j (B.keeps j jl jh);
      independent = ind;
      within = λ j jl jh. elim (nat_cases j k) [ inl q ↦ subst (λ x. X x ≡ true) (sym q) h | inr ne ↦ B.within j jl (with_one-other B.I k j jh ne) ];
      spans = λ j jl below jh. elim (nat_cases j k) [
        | inl q ↦ subst (λ x. IsCombination p a m n (with_one B.I k) x) (sym q) (combination-member p a m n (with_one B.I k) k l (with_one-new B.I k))
        | inr ne ↦ combination-within p a m n B.I (with_one B.I k) j (λ i _ ih. with_one-member B.I k i ih) (B.spans j jl (omega arith) jh)
      ];
    }

    at_k : (B : Basis p a m n k X Z) → k < n → X k ≡ true → (b : Bool) → B.I k ≡ b → Basis p a m n (suc k) X Z
    at_k B l h true e = same B (λ _ _. combination-member p a m n B.I k l e)
    at_k B l h false e = elim (join_or_combination p prime a m n B.I k l e B.independent) [ inl ind ↦ grown B l h ind | inr comb ↦ same B (λ _ _. comb) ]

    go : (b : Bool) → X k ≡ b → (k < n) ⊎ (n ≤ k) → Basis p a m n k X Z → Basis p a m n (suc k) X Z
    go true e (inl l) B = at_k B l e (B.I k) refl
    go true e (inr g) B = same B (λ l _. absurd (omega arith))
    go false e d B = same B (λ _ h. absurd (differ e h))

-- a complete basis shows the rank
pub basis-rank : (p : ℕ) → IsPrime p → (a : ℕ → ℕ → ℕ) (m n : ℕ) (X Z : ℕ → Bool) → (B : Basis p a m n n X Z) → IsRank p a m n X (size_on B.I n)
basis-rank p prime a m n X Z B = rank_of-basis p prime a m n X B.I B.within B.independent (λ j l h. B.spans j l l h)

pub none_independent : (p : ℕ) (a : ℕ → ℕ → ℕ) (m n : ℕ) → IsIndependent p a m n (λ _. false)
none_independent p a m n c s j l h = absurd (differ refl h)

pub rank_exists : (p : ℕ) → IsPrime p → (a : ℕ → ℕ → ℕ) (m n : ℕ) (X : ℕ → Bool) → (r : ℕ) × IsRank p a m n X r
rank_exists p prime a m n X = go (basis p prime a m n X (λ _. false) (λ j l h. absurd (differ refl h)) (none_independent p a m n) n)
  where
    go : Basis p a m n n X (λ _. false) → (r : ℕ) × IsRank p a m n X r
    go B = (size_on B.I n, basis-rank p prime a m n X (λ _. false) B)

-- part of an independent set is independent
pub independent-within : (p : ℕ) (a : ℕ → ℕ → ℕ) (m n : ℕ) (Y X : ℕ → Bool) → IsWithin n Y X → IsIndependent p a m n X → IsIndependent p a m n Y
independent-within p a m n Y X within ind c s j jl jh = sym (ap (λ b. cond b (c j) 0 % p) jh) ∙ ind (λ i. cond (Y i) (c i) 0) solves j jl (within j jl jh)
  where
    pulled : (b : Bool) (x y : ℕ) → cond b x 0 * y ≡ cond b (x * y) 0
    pulled b x y = grind arith

    solves : (i : ℕ) → i < m → sum_on X n (λ k. cond (Y k) (c k) 0 * a i k) % p ≡ 0
    solves i il = ap (λ w. w % p) (sum_on-ext X n (λ k. cond (Y k) (c k) 0 * a i k) (λ k. cond (Y k) (c k * a i k) 0) (λ k _ _. pulled (Y k) (c k) (a i k))
        ∙ sum_on-within X Y n (λ k. c k * a i k) within) ∙ s i il
