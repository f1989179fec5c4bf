-- Gauss elimination as one induction over the equations: either the only solution is zero, and
-- then there are no more unknowns than equations, or a solution is not zero.
use Rattle.std.proofs.Common.{◌≡◌, ℕ, zero, suc, ◌+◌, ◌*◌, ◌%◌, ◌<◌, ◌≤◌, ◌≢◌, Bool, true, false, cond, not, ◌&&◌, eqb, ◌⊎◌}
use Rattle.std.proofs.Common.{inl, inr, refl, ap, sym, subst, ◌∙◌, arith}
use Rattle.residue_theory.specs.Sets.{without}
use Rattle.residue_theory.specs.Sums.{sum_on, size_on}
use Rattle.residue_theory.specs.Residues.{IsPrime}
use Rattle.residue_theory.proofs.SumLaws.{sum_on-add, sum_on-mul, sum_on-ext, sum_on-without, nat_cases, without-member, member-without}
use Rattle.residue_theory.proofs.SetLaws.{differ, first_on}
use Rattle.residue_theory.proofs.CountLaws.{size-zero}
use Rattle.residue_theory.proofs.ResidueLaws.{vanishes-mul, vanishes-sum, vanishes_by, cleared, pivot_free, negative_inverse, HasNegativeInverse, one_non_zero}
use Rattle.std.proofs.lemmas.Bool.Decides.{nat_tests}

-- c solves the equations of the rows of R, below m, in the unknowns of X, below n
abbrev pub Solves : ℕ → (ℕ → ℕ → ℕ) → (ℕ → Bool) → ℕ → (ℕ → Bool) → ℕ → (ℕ → ℕ) → Type 0
Solves p a R m X n c = (i : ℕ) → i < m → R i ≡ true → sum_on X n (λ j. c j * a i j) % p ≡ 0

abbrev pub OnlyZero : ℕ → (ℕ → ℕ → ℕ) → (ℕ → Bool) → ℕ → (ℕ → Bool) → ℕ → Type 0
OnlyZero p a R m X n = (c : ℕ → ℕ) → Solves p a R m X n c → (j : ℕ) → j < n → X j ≡ true → c j % p ≡ 0

pub record NonZeroSolution (p : ℕ) (a : ℕ → ℕ → ℕ) (R : ℕ → Bool) (m : ℕ) (X : ℕ → Bool) (n : ℕ) : Type 0 where
  pub at : ℕ → ℕ
  pub solves : Solves p a R m X n at
  pub place : ℕ
  pub below : place < n
  pub member : X place ≡ true
  pub non_zero : at place % p ≢ 0

-- the matrix with column v cleared by the pivot at row r, where w is -1 over the pivot
abbrev clear : (ℕ → ℕ → ℕ) → ℕ → ℕ → ℕ → ℕ → ℕ → ℕ
clear a r v w i j = a i j + w * a i v * a r j

module _ (a : ℕ → ℕ → ℕ) (X : ℕ → Bool) (n : ℕ) where
  sum-split : (v : ℕ) → v < n → X v ≡ true → (c : ℕ → ℕ) (i : ℕ) → sum_on X n (λ j. c j * a i j) ≡ sum_on (without X v) n (λ j. c j * a i j) + c v * a i v
  sum-split v l h c i = sum_on-without X n v (λ j. c j * a i j) l h

  sum-clear : (r v w : ℕ) (c : ℕ → ℕ) (i : ℕ) →
      sum_on X n (λ j. c j * clear a r v w i j) ≡ sum_on X n (λ j. c j * a i j) + w * a i v * sum_on X n
      (λ j. c j * a r j)
  sum-clear r v w c i =
      sum_on-ext X n (λ j. c j * clear a r v w i j) (λ j. c j * a i j + w * a i v * (c j * a r j)) (λ j _ _. omega arith)
      ∙ sum_on-add X n (λ j. c j * a i j) (λ j. w * a i v * (c j * a r j))
      ∙ ap (λ s. sum_on X n (λ j. c j * a i j) + s) (sum_on-mul X n (w * a i v) (λ j. c j * a r j))

  -- a solution of the cleared equations, with the pivot's unknown chosen to solve the pivot's row
  extend : ℕ → ℕ → ℕ → (ℕ → ℕ) → ℕ → ℕ
  extend r v w c j = cond (eqb j v) (w * sum_on (without X v) n (λ k. c k * a r k)) (c j)

  extend-same : (r v w : ℕ) (c : ℕ → ℕ) → extend r v w c v ≡ w * sum_on (without X v) n (λ k. c k * a r k)
  unfolding extend
  extend-same r v w c = grind (arith, nat_tests)

  extend-other : (r v w : ℕ) (c : ℕ → ℕ) (j : ℕ) → j ≢ v → extend r v w c j ≡ c j
  unfolding extend
  extend-other r v w c j ne = grind (arith, nat_tests)

  sum-extend : (r v w : ℕ) (c : ℕ → ℕ) (i : ℕ) → v < n → X v ≡ true →
      sum_on X n (λ j. extend r v w c j * a i j) ≡ sum_on (without X v) n (λ j. c j * a i j) + w * sum_on (without X v) n (λ k. c k * a r k) * a i v
  sum-extend r v w c i l h =
      sum-split v l h (extend r v w c) i
      ∙ ap (λ s. s + extend r v w c v * a i v) (sum_on-ext (without X v) n (λ j. extend r v w c j * a i j) (λ j. c j * a i j)
      (λ j _ q. ap (λ x. x * a i j) (extend-other r v w c j ((without-member X v j q).1))))
      ∙ ap (λ s. sum_on (without X v) n (λ j. c j * a i j) + s * a i v) (extend-same r v w c)

not_pivot : (b : Bool) (x : ℕ) → b && not (eqb x 0) ≡ false → b ≡ true → x ≡ 0
not_pivot b x h e = grind (arith, nat_tests)

pivot_non_zero : (b : Bool) (x : ℕ) → b && not (eqb x 0) ≡ true → x ≢ 0
pivot_non_zero b x h = grind (arith, nat_tests)

pivot_member : (b : Bool) (x : ℕ) → b && not (eqb x 0) ≡ true → b ≡ true
pivot_member b x h = grind (arith, nat_tests)

abbrev pub Dichotomy : ℕ → (ℕ → ℕ → ℕ) → (ℕ → Bool) → ℕ → (ℕ → Bool) → ℕ → Type 0
Dichotomy p a R m X n = (OnlyZero p a R m X n × (size_on X n ≤ size_on R m)) ⊎ NonZeroSolution p a R m X n

-- no equation
no_rows : (p : ℕ) → IsPrime p → (a : ℕ → ℕ → ℕ) (R X : ℕ → Bool) (n : ℕ) → Dichotomy p a R zero X n
no_rows p prime a R X n = go (first_on X n)
  where
    go : ((j : ℕ) × (j < n) × (X j ≡ true)) ⊎ ((j : ℕ) → j < n → X j ≡ false) → Dichotomy p a R zero X n
    go (inl (j, l, h)) = inr (record {
      at = λ _. suc zero;
      solves = λ i none. absurd
          (omega arith);
      place = j;
      below = l;
      member = h;
      non_zero = one_non_zero p prime (suc zero) refl;
    })
    go (inr none) = inl ((λ c _ j l h. absurd (differ (none j l) h)), omega (arith, size-zero X n none))

-- the last row is not an equation of the system
skip_row : (p : ℕ) (a : ℕ → ℕ → ℕ) (R X : ℕ → Bool) (m n : ℕ) → R m ≡ false → Dichotomy p a R m X n → Dichotomy p a R (suc m) X n
skip_row p a R X m n e (inl (only, le)) = inl ((λ c s. only c (λ i l. s i (omega arith))), (grind (arith, le, e)))
skip_row p a R X m n e (inr s) = inr (record { at = s.at; solves = extended; place = s.place; below = s.below; member = s.member; non_zero = s.non_zero })
  where
    extended : Solves p a R (suc m) X n s.at
    extended i l h = elim (nat_cases i m) [ inl q ↦ absurd (differ (subst (λ w. R w ≡ false) (sym q) e) h) | inr ne ↦ s.solves i (omega arith) h ]

-- the last row vanishes on X
zero_row : (p : ℕ) (a : ℕ → ℕ → ℕ) (R X : ℕ → Bool) (m n : ℕ) → R m ≡ true →
    ((j : ℕ) → j < n → X j ≡ true → a m j % p ≡ 0) → Dichotomy p a R m X n → Dichotomy p a R (suc m) X n
zero_row p a R X m n e zeros (inl (only, le)) = inl ((λ c s. only c (λ i l. s i (omega arith))), (grind (arith, le, e)))
zero_row p a R X m n e zeros (inr s) = inr (record { at = s.at; solves = extended; place = s.place; below = s.below; member = s.member; non_zero = s.non_zero })
  where
    last : sum_on X n (λ j. s.at j * a m j) % p ≡ 0
    last = vanishes-sum p X n (λ j. s.at j * a m j) (λ j l h. vanishes-mul p (s.at j) (a m j) (zeros j l h))

    extended : Solves p a R (suc m) X n s.at
    extended i l h = elim (nat_cases i m) [ inl q ↦ subst (λ w. sum_on X n (λ j. s.at j * a w j) % p ≡ 0) (sym q) last | inr ne ↦ s.solves i (omega arith) h ]

-- the last row has a pivot at v
pivot_row : (p : ℕ) → IsPrime p → (a : ℕ → ℕ → ℕ) (R X : ℕ → Bool) (m n v w : ℕ) → R m ≡ true → v < n → X v ≡ true → (a m v * w + 1) % p ≡ 0 →
    Dichotomy p (clear a m v w) R m (without X v) n → Dichotomy p a R (suc m) X n
pivot_row p prime a R X m n v w e vl vh z (inl (only, le)) = inl (zero_alone, (omega (arith, sum_on-without X n v (λ _. 1) vl vh, one_more)))
  where
    one_more : size_on R (suc m) ≡ size_on R m + 1
    one_more = grind (arith, e)

    zero_alone : OnlyZero p a R (suc m) X n
    zero_alone c s j jl jh = elim (nat_cases j v) [ inl q ↦ subst (λ k. c k % p ≡ 0) (sym q) at_v | inr ne ↦ rest j jl (member-without X v j jh ne) ]
      where
        T : ℕ → ℕ
        T i = sum_on (without X v) n (λ k. c k * a i k)

        row : (i : ℕ) → i < suc m → R i ≡ true → (T i + c v * a i v) % p ≡ 0
        row i l h = vanishes_by p _ _ (sym (sum-split a X n v vl vh c i)) (s i l h)

        rest : (k : ℕ) → k < n → without X v k ≡ true → c k % p ≡ 0
        rest = only c (λ i l h. vanishes_by p _ (T i + w * a i v * T m) (sum-clear a (without X v) n m v w c i)
            (cleared p (T i) (T m) (c v) (a i v) (a m v) w (row i (omega arith) h) (row m (omega arith) e) z))

        at_v : c v % p ≡ 0
        at_v = pivot_free p (T m) (c v) (a m v) w (row m (omega arith) e)
            (vanishes-sum p (without X v) n (λ k. c k * a m k)
            (λ k l h. vanishes_by p _ (a m k * c k) (omega arith) (vanishes-mul p (a m k) (c k) (rest k l h)))) z
pivot_row p prime a R X m n v w e vl vh z (inr s) = inr
    (record {
      at = extend a X n m v w s.at;
      solves = extended;
      place = s.place;
      below = s.below;
      member =
          (without-member X v s.place s.member).0;
      non_zero = still;
    })
  where
    S : ℕ
    S = sum_on (without X v) n (λ k. s.at k * a m k)

    still : extend a X n m v w s.at s.place % p ≢ 0
    still h = s.non_zero (ap (λ x. x % p) (sym (extend-other a X n m v w s.at s.place ((without-member X v s.place s.member).1))) ∙ h)

    earlier : (i : ℕ) → i < m → R i ≡ true → sum_on X n (λ j. extend a X n m v w s.at j * a i j) % p ≡ 0
    earlier i l h = vanishes_by p _ _ (sum-extend a X n m v w s.at i vl vh ∙ omega arith ∙ sym (sum-clear a (without X v) n m v w s.at i)) (s.solves i l h)

    last : sum_on X n (λ j. extend a X n m v w s.at j * a m j) % p ≡ 0
    last = vanishes_by p _ (S * (a m v * w + 1)) (sum-extend a X n m v w s.at m vl vh ∙ omega arith) (vanishes-mul p S (a m v * w + 1) z)

    extended : Solves p a R (suc m) X n (extend a X n m v w s.at)
    extended i l h = elim (nat_cases i m) [
      | inl q ↦ subst (λ k. sum_on X n (λ j. extend a X n m v w s.at j * a k j) % p ≡ 0) (sym q) last
      | inr ne ↦ earlier i (omega arith) h
    ]

pub dichotomy : (p : ℕ) → IsPrime p → (R : ℕ → Bool) (n m : ℕ) (a : ℕ → ℕ → ℕ) (X : ℕ → Bool) → Dichotomy p a R m X n
dichotomy p prime R n zero a X = no_rows p prime a R X n
dichotomy p prime R n (suc m) a X = go (R m) refl (first_on (λ j. X j && not (eqb (a m j % p) 0)) n)
    (dichotomy p prime R n m a X) (λ b Y. dichotomy p prime R n m b Y)
  where
    go : (b : Bool) → R m ≡ b → ((j : ℕ) × (j < n) × (X j && not (eqb (a m j % p) 0) ≡ true)) ⊎ ((j : ℕ) → j < n → X j && not (eqb (a m j % p) 0) ≡ false) →
        Dichotomy p a R m X n → ((b : ℕ → ℕ → ℕ) (Y : ℕ → Bool) → Dichotomy p b R m Y n) → Dichotomy p a R (suc m) X n
    go false e _ same _ = skip_row p a R X m n e same
    go true e (inr none) same _ = zero_row p a R X m n e (λ j l h. not_pivot (X j) (a m j % p) (none j l) h) same
    go true e (inl (v, l, h)) _ all =
        let w : HasNegativeInverse p (a m v) = negative_inverse p prime (a m v) (pivot_non_zero (X v) (a m v % p) h) in
        pivot_row p prime a R X m n v w.0 e l (pivot_member (X v) (a m v % p) h) w.1 (all (clear a m v w.0) (without X v))

-- more unknowns than equations: a solution that is not all zero
pub nonzero_solution : (p : ℕ) → IsPrime p → (a : ℕ → ℕ → ℕ) (R : ℕ → Bool) (m : ℕ) (X : ℕ → Bool) (n : ℕ) →
    size_on R m < size_on X n → NonZeroSolution p a R m X n
nonzero_solution p prime a R m X n more = elim (dichotomy p prime R n m a X) [ inl few ↦ absurd (omega (arith, few.1)) | inr s ↦ s ]
