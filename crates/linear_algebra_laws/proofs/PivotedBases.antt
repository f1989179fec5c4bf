-- Pivots bring any independent set of columns into unit columns.
use Rattle.std.proofs.Common.{◌≡◌, ◌+◌, ◌-◌, ◌*◌, ◌%◌, ◌<◌, ◌≤◌, ◌≢◌, ◌&&◌, ◌⊎◌, ◌∙◌, ℕ, zero, suc, Bool, true, false, cond}
use Rattle.std.proofs.Common.{eqb, ltb, inl, inr, refl, ap, sym, subst, arith}
use Rattle.std.proofs.lemmas.Bool.Decides.{nat_tests}
use Rattle.std.proofs.Math.Nat.{zero-mod, mod-eq_of_lt}
use Rattle.residue_theory.proofs.CountLaws.{sum-with_one}
use Rattle.residue_theory.proofs.ResidueLaws.{agree-add, agree-mul, inverse, lacks, vanishes-add, vanishes-mul, vanishes-rest, vanishes_factor}
use Rattle.residue_theory.proofs.SetLaws.{both-first, both-second, both_true, differ, eqb_from, search_below}
use Rattle.residue_theory.proofs.SetLaws.{with_one-member, with_one-new, with_one-other, zero_cases}
use Rattle.residue_theory.proofs.SumLaws.{nat_cases, sum_on-add, sum_on-ext, sum_on-mul}
use Rattle.residue_theory.specs.Residues.{IsPrime}
use Rattle.residue_theory.specs.Sets.{IsWithin, with_one}
use Rattle.residue_theory.specs.Sums.{size_on, sum_on}
use Rattle.linear_algebra.specs.Bases.{HasNoBase, IsBase}
use Rattle.linear_algebra.specs.Columns.{CombinesToZero, IsCombination, IsIndependent}
use Rattle.linear_algebra.specs.Kernels.{SameKernel}
use Rattle.linear_algebra.specs.RowOperations.{IsPivoted}
use Rattle.linear_algebra_laws.proofs.Bases.{base-independent, base-within, base_or_none, combines_of-base}
use Rattle.linear_algebra_laws.proofs.Kernels.{independent_of-kernel, kernel-refl, kernel-trans}
use Rattle.linear_algebra_laws.proofs.Pivots.{base-pivot, row_set}
use Rattle.linear_algebra_laws.proofs.RankLaws.{rank_of-independent}
use Rattle.linear_algebra_laws.proofs.Ranks.{combination-member, independent-within, rank-unique, rank_of-basis}

-- ---- a with a pivot at row r and column v, where w is the inverse of the entry there
pivoted : ℕ → ℕ → (ℕ → ℕ → ℕ) → ℕ → ℕ → ℕ → ℕ → ℕ
pivoted p w a r v i j = cond (eqb i r) (w * a r j) (a i j + (p - 1) * a i v * w * a r j)

module _ (p w : ℕ) (a : ℕ → ℕ → ℕ) (r v : ℕ) where
  at_row : (j : ℕ) → pivoted p w a r v r j ≡ w * a r j
  unfolding pivoted
  at_row j = ap (λ b. cond b (w * a r j) (a r j + (p - 1) * a r v * w * a r j)) (eqb_from r r refl)

  elsewhere : (i j : ℕ) → i ≢ r → pivoted p w a r v i j ≡ a i j + (p - 1) * a i v * w * a r j
  unfolding pivoted
  elsewhere i j ne = ap (λ b. cond b (w * a r j) (a i j + (p - 1) * a i v * w * a r j)) (other i ne)
    where
      other : (i : ℕ) → i ≢ r → eqb i r ≡ false
      other i ne = grind (arith, nat_tests)

  -- what coefficients combine to, at the pivot row and at another
  sum-row : (n : ℕ) (X : ℕ → Bool) (c : ℕ → ℕ) → sum_on X n (λ j. c j * pivoted p w a r v r j) ≡ w * sum_on X n (λ j. c j * a r j)
  sum-row n X c = sum_on-ext X n (λ j. c j * pivoted p w a r v r j) (λ j. w * (c j * a r j)) (λ j _ _. ap (λ y. c j * y) (at_row j) ∙ omega arith)
      ∙ sum_on-mul X n w (λ j. c j * a r j)

  sum-other : (n : ℕ) (X : ℕ → Bool) (c : ℕ → ℕ) (i : ℕ) → i ≢ r →
      sum_on X n (λ j. c j * pivoted p w a r v i j) ≡ sum_on X n (λ j. c j * a i j) + (p - 1) * a i v * w * sum_on X n (λ j. c j * a r j)
  sum-other n X c i ne = sum_on-ext X n (λ j. c j * pivoted p w a r v i j) (λ j. c j * a i j + (p - 1) * a i v * w * (c j * a r j))
      (λ j _ _. ap (λ y. c j * y) (elsewhere i j ne) ∙ spread (c j) (a i j) ((p - 1) * a i v * w) (a r j))
      ∙ sum_on-add X n (λ j. c j * a i j) (λ j. (p - 1) * a i v * w * (c j * a r j))
      ∙ ap (λ s. sum_on X n (λ j. c j * a i j) + s) (sum_on-mul X n ((p - 1) * a i v * w) (λ j. c j * a r j))
    where
      spread : (c x k y : ℕ) → c * (x + k * y) ≡ c * x + k * (c * y)
      spread c x k y = omega arith

pivot_exists : (p : ℕ) → IsPrime p → (m n : ℕ) (a : ℕ → ℕ → ℕ) (r v w : ℕ) → r < m → (a r v * w) % p ≡ 1 → IsPivoted p m n a (pivoted p w a r v) r v
pivot_exists p prime m n a r v w rl inv = record {
  kernel = record { forward = forward; back = back };
  one = ap (λ y. y % p) (at_row p w a r v v ∙ omega arith) ∙ inv;
  zero = zero_at;
  keeps = keeps;
}
  where
    w_non_zero : w % p ≢ 0
    w_non_zero z = never ((a r v * w) % p) inv (vanishes-mul p (a r v) w z)
      where
        never : (x : ℕ) → x ≡ 1 → x ≡ 0 → ⊥
        never x b c = omega arith

    forward : (X : ℕ → Bool) (c : ℕ → ℕ) → CombinesToZero p a m n X c → CombinesToZero p (pivoted p w a r v) m n X c
    forward X c z i il = elim (nat_cases i r) [
      | inl q ↦ subst (λ k. sum_on X n (λ j. c j * pivoted p w a r v k j) % p ≡ 0) (sym q)
          (ap (λ y. y % p) (sum-row p w a r v n X c) ∙ vanishes-mul p w (sum_on X n (λ j. c j * a r j)) (z r rl))
      | inr ne ↦ ap (λ y. y % p) (sum-other p w a r v n X c i ne)
          ∙ vanishes-add p (sum_on X n (λ j. c j * a i j)) ((p - 1) * a i v * w * sum_on X n (λ j. c j * a r j))
          (z i il)
          (vanishes-mul p ((p - 1) * a i v * w) (sum_on X n (λ j. c j * a r j)) (z r rl))
    ]

    row-zero : (X : ℕ → Bool) (c : ℕ → ℕ) → CombinesToZero p (pivoted p w a r v) m n X c → sum_on X n (λ j. c j * a r j) % p ≡ 0
    row-zero X c z = vanishes_factor p prime w (sum_on X n (λ j. c j * a r j)) w_non_zero (sym (ap (λ y. y % p) (sum-row p w a r v n X c)) ∙ z r rl)

    back : (X : ℕ → Bool) (c : ℕ → ℕ) → CombinesToZero p (pivoted p w a r v) m n X c → CombinesToZero p a m n X c
    back X c z i il = elim (nat_cases i r) [
      | inl q ↦ subst (λ k. sum_on X n (λ j. c j * a k j) % p ≡ 0) (sym q) (row-zero X c z)
      | inr ne ↦ vanishes-rest p ((p - 1) * a i v * w * sum_on X n (λ j. c j * a r j)) (sum_on X n (λ j. c j * a i j))
          (ap (λ y. y % p) (omega arith) ∙ sym (ap (λ y. y % p) (sum-other p w a r v n X c i ne)) ∙ z i il)
          (vanishes-mul p ((p - 1) * a i v * w) (sum_on X n (λ j. c j * a r j)) (row-zero X c z))
    ]

    zero_at : (i : ℕ) → i < m → i ≢ r → pivoted p w a r v i v % p ≡ 0
    zero_at i il ne = ap (λ y. y % p) (elsewhere p w a r v i v ne ∙ ap (λ y. a i v + y) (regrouped (p - 1) (a i v) w (a r v)))
        ∙ agree-add p (a i v) (a i v) ((p - 1) * a i v * (a r v * w)) ((p - 1) * a i v * 1) refl
        (agree-mul p ((p - 1) * a i v) (a r v * w) 1 (inv ∙ sym (mod-eq_of_lt prime.above_one)))
        ∙ ap (λ y. (a i v + y) % p) (single ((p - 1) * a i v)) ∙ lacks p prime (a i v)
      where
        regrouped : (k x w y : ℕ) → k * x * w * y ≡ k * x * (y * w)
        regrouped k x w y = omega arith

        single : (x : ℕ) → x * 1 ≡ x
        single x = omega arith

    keeps : (j : ℕ) → j < n → a r j % p ≡ 0 → (i : ℕ) → i < m → pivoted p w a r v i j % p ≡ a i j % p
    keeps j jl z i il = elim (nat_cases i r) [
      | inl q ↦ subst (λ k. pivoted p w a r v k j % p ≡ a k j % p) (sym q) (ap (λ y. y % p) (at_row p w a r v j) ∙ vanishes-mul p w (a r j) z ∙ sym z)
      | inr ne ↦ ap (λ y. y % p) (elsewhere p w a r v i j ne)
          ∙ agree-add p (a i j) (a i j) ((p - 1) * a i v * w * a r j) 0 refl (vanishes-mul p ((p - 1) * a i v * w) (a r j) z ∙ sym (zero-mod p))
          ∙ ap (λ y. y % p) (let e : a i j + 0 ≡ a i j = omega arith in e)
    ]

-- ---- columns of an independent set, one after the other
abbrev members_below : (ℕ → Bool) → ℕ → ℕ → Bool
members_below I k j = I j && ltb j k

pub record PivotedBase (p m n : ℕ) (a : ℕ → ℕ → ℕ) (B : ℕ → Bool) : Type 0 where
  pub P : ℕ → ℕ → ℕ
  pub row : ℕ → ℕ
  pub kernel : SameKernel p m n a P
  pub base : IsBase p P m n B row

module _ (p : ℕ) (prime : IsPrime p) (m n : ℕ) (a : ℕ → ℕ → ℕ) where
  smaller : (B C : ℕ → Bool) → IsWithin n C B → PivotedBase p m n a B → PivotedBase p m n a C
  smaller B C within T = record { P = T.P; row = T.row; kernel = T.kernel; base = base-within p T.P m n C B T.row within T.base }

  -- a column that may join the base is not zero at some row without base
  new_row : (B : ℕ → Bool) (T : PivotedBase p m n a B) (k : ℕ) → k < n → B k ≡ false → IsIndependent p a m n (with_one B k) →
      (i : ℕ) × (i < m) × (HasNoBase n B T.row i × (T.P i k % p ≢ 0))
  new_row B T k kl new ind = go
      (search_below m (λ i. HasNoBase n B T.row i × (T.P i k % p ≢ 0))
      (λ i il. at i (base_or_none p prime T.P m n B T.row T.base i) (zero_cases (T.P i k % p))))
    where
      at : (i : ℕ) → ((b : ℕ) × (b < n) × (B b ≡ true) × (T.row b ≡ i)) ⊎ HasNoBase n B T.row i → (T.P i k % p ≡ 0) ⊎ (T.P i k % p ≢ 0) →
          (HasNoBase n B T.row i × (T.P i k % p ≢ 0)) ⊎ (HasNoBase n B T.row i × (T.P i k % p ≢ 0) → ⊥)
      at i (inl (b, bl, bh, q)) d = inr (λ w. w.0 b bl bh q)
      at i (inr none) (inl z) = inr (λ w. w.1 z)
      at i (inr none) (inr ne) = inl (none, ne)

      free : IsIndependent p T.P m n (with_one B k)
      free = independent_of-kernel p m n a T.P (with_one B k) T.kernel ind

      zero_or : ((i : ℕ) → i < m → HasNoBase n B T.row i × (T.P i k % p ≢ 0) → ⊥) → (i : ℕ) → i < m →
          HasNoBase n B T.row i → (T.P i k % p ≡ 0) ⊎ (T.P i k % p ≢ 0) → T.P i k % p ≡ 0
      zero_or never i il none (inl z) = z
      zero_or never i il none (inr ne) = absurd (never i il (none, ne))

      go : ((i : ℕ) × (i < m) × (HasNoBase n B T.row i × (T.P i k % p ≢ 0))) ⊎ ((i : ℕ) → i < m → HasNoBase n B T.row i × (T.P i k % p ≢ 0) → ⊥) →
          (i : ℕ) × (i < m) × (HasNoBase n B T.row i × (T.P i k % p ≢ 0))
      go (inl found) = found
      go (inr never) = absurd (omega (
        arith,
        rank-unique p T.P m n (with_one B k) (size_on B n) (size_on (with_one B k) n)
            (rank_of-basis p prime T.P m n (with_one B k) B (λ j _ h. with_one-member B k j h)
            (base-independent p prime T.P m n B T.row T.base B (λ j _ h. h)) spans)
            (rank_of-independent p T.P m n (with_one B k) free),
        sum-with_one B n k (λ _. 1) kl new,
      ))
        where
          combined : IsCombination p T.P m n B k
          combined = combines_of-base p prime T.P m n B T.row T.base (λ i. T.P i k) (λ i il none. zero_or never i il none (zero_cases (T.P i k % p)))

          spans : (j : ℕ) → j < n → with_one B k j ≡ true → IsCombination p T.P m n B j
          spans j jl h = elim (nat_cases j k) [
            | inl q ↦ subst (λ i. IsCombination p T.P m n B i) (sym q) combined
            | inr ne ↦ combination-member p T.P m n B j jl (with_one-other B k j h ne)
          ]

  joined : (B : ℕ → Bool) (T : PivotedBase p m n a B) (k : ℕ) → k < n → B k ≡ false → IsIndependent p a m n (with_one B k) → PivotedBase p m n a (with_one B k)
  joined B T k kl new ind = go (new_row B T k kl new ind)
    where
      go : (i : ℕ) × (i < m) × (HasNoBase n B T.row i × (T.P i k % p ≢ 0)) → PivotedBase p m n a (with_one B k)
      go (i, il, (none, ne)) = scaled (inverse p prime (T.P i k) ne)
        where
          scaled : (w : ℕ) × ((T.P i k * w) % p ≡ 1) → PivotedBase p m n a (with_one B k)
          scaled (w, inv) = let turned : IsPivoted p m n T.P (pivoted p w T.P i k) i k = pivot_exists p prime m n T.P i k w il inv in record {
            P = pivoted p w T.P i k;
            row = row_set T.row k i;
            kernel = kernel-trans p m n a T.P (pivoted p w T.P i k) T.kernel turned.kernel;
            base = base-pivot p T.P (pivoted p w T.P i k) m n B T.row i k T.base turned il (λ c cl ch q. none c cl ch (sym q));
          }

  module _ (I : ℕ → Bool) (ind : IsIndependent p a m n I) where
    up_to : (k : ℕ) → k ≤ n → PivotedBase p m n a (members_below I k)
    up_to zero le = record {
      P = a;
      row = λ _. 0;
      kernel = kernel-refl p m n a;
      base = record {
        row_below = λ b bl h. absurd (none b h);
        one = λ b bl h. absurd (none b h);
        zero = λ b i bl bh il ne. absurd (none b bh);
        distinct = λ b c bl cl bh ch q. absurd (none b bh);
      };
    }
      where
        none : (b : ℕ) → members_below I 0 b ≡ true → ⊥
        none b h = outside (I b) b h
          where
            outside : (s : Bool) (b : ℕ) → s && ltb b 0 ≡ true → ⊥
            outside s b h = grind (arith, nat_tests)
    up_to (suc k) le = go (I k) refl (up_to k (omega arith))
      where
        split : (s : Bool) (j : ℕ) → s && ltb j (suc k) ≡ true → (s ≡ true) × (j < suc k)
        split s j h = (both-first s (ltb j (suc k)) h, below j (both-second s (ltb j (suc k)) h))
          where
            below : (j : ℕ) → ltb j (suc k) ≡ true → j < suc k
            below j h = grind (arith, nat_tests)

        less : (j : ℕ) → j < k → ltb j k ≡ true
        less j l = grind (arith, nat_tests)

        not_less : ltb k k ≡ false
        not_less = grind (arith, nat_tests)

        old : (j : ℕ) → members_below I (suc k) j ≡ true → j ≢ k → members_below I k j ≡ true
        old j h ne = let w : (I j ≡ true) × (j < suc k) = split (I j) j h in both_true (I j) (ltb j k) w.0 (less j (omega arith))

        new : members_below I k k ≡ false
        new = second (I k) (ltb k k) not_less
          where
            second : (s t : Bool) → t ≡ false → s && t ≡ false
            second s t h = grind arith

        go : (b : Bool) → I k ≡ b → PivotedBase p m n a (members_below I k) → PivotedBase p m n a (members_below I (suc k))
        go true e T = smaller (with_one (members_below I k) k) (members_below I (suc k))
            (λ j jl h. elim (nat_cases j k) [
              | inl q ↦ subst (λ i. with_one (members_below I k) k i ≡ true) (sym q) (with_one-new (members_below I k) k)
              | inr ne ↦ with_one-member (members_below I k) k j (old j h ne)
            ])
            (joined (members_below I k) T k (omega arith) new (independent-within p a m n (with_one (members_below I k) k) I inside ind))
          where
            inside : IsWithin n (with_one (members_below I k) k) I
            inside j jl h = elim (nat_cases j k) [
              | inl q ↦ subst (λ i. I i ≡ true) (sym q) e
              | inr ne ↦ both-first (I j) (ltb j k) (with_one-other (members_below I k) k j h ne)
            ]
        go false e T = smaller (members_below I k) (members_below I (suc k))
            (λ j jl h. old j h (λ q. differ e (subst (λ i. I i ≡ true) q (split (I j) j h).0))) T

    -- the whole set as a base
    pub pivoted_base : PivotedBase p m n a I
    pivoted_base = smaller (members_below I n) I (λ j jl h. both_true (I j) (ltb j n) h (under j jl)) (up_to n (omega arith))
      where
        under : (j : ℕ) → j < n → ltb j n ≡ true
        under j l = grind (arith, nat_tests)
