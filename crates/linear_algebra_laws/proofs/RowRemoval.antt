-- A matrix with one row less: the rank falls by one exactly where that row's unit column is a combination of the columns.
use Rattle.std.proofs.Common.{◌≡◌, ℕ, ◌+◌, ◌-◌, ◌*◌, ◌%◌, ◌<◌, ◌≤◌, ◌≢◌, Bool, true, false, ◌⊎◌, inl, inr, refl, ap, sym, subst, ◌∙◌, arith}
use Rattle.std.proofs.lemmas.Bool.Decides.{nat_tests}
use Rattle.std.proofs.Math.Nat.{zero-mod, mod-eq_of_lt}
use Rattle.residue_theory.specs.Sets.{everything, without, IsWithin}
use Rattle.residue_theory.specs.Sums.{sum_on, sum_below, size_on}
use Rattle.residue_theory.specs.Residues.{IsPrime}
use Rattle.residue_theory.proofs.SumLaws.{sum_on-mul, sum_on-ext, nat_cases, member-without}
use Rattle.residue_theory.proofs.SetLaws.{le_cases, zero_cases, search_below}
use Rattle.residue_theory.proofs.CountLaws.{size-everything}
use Rattle.residue_theory.proofs.ResidueLaws.{agree-mul, agree-sum, vanishes-mul, vanishes-sum, inverse, one_non_zero}
use Rattle.linear_algebra.specs.Columns.{CombinesToZero, IsIndependent, IsRank, Combines}
use Rattle.linear_algebra.specs.Products.{identity, product, IsInverse, Agree}
use Rattle.linear_algebra.specs.Bases.{IsBase, HasNoBase}
use Rattle.linear_algebra.specs.Parts.{without_row, above, part}
use Rattle.linear_algebra_laws.proofs.Elimination.{Dichotomy, dichotomy}
use Rattle.linear_algebra_laws.proofs.Ranks.{rank_exists, combination_of-largest, combines-through, combines-within}
use Rattle.linear_algebra_laws.proofs.RankLaws.{rank-rows, rank_of-independent}
use Rattle.linear_algebra_laws.proofs.Products.{sum-product, combines-product, combines_of-product, sum-identity_right}
use Rattle.linear_algebra_laws.proofs.Bases.{base_or_none, base-combines, combines_of-base}
use Rattle.linear_algebra_laws.proofs.Stacked.{above-size, top-zero, low-zero}
use Rattle.linear_algebra_laws.proofs.SkipLaws.{skip-other, skip-below, unskip, unskip-below, skip-unskip}
use Rattle.linear_algebra_laws.proofs.Entries.{identity-same, identity-other, part-shown, part-other_row}

-- the k rows of b are those of a but row e, in any order
pub record IsRowRemoved (p m k n : ℕ) (a b : ℕ → ℕ → ℕ) (e : ℕ) : Type 0 where
  pub row_below : e < m
  pub rows : (Y : ℕ → Bool) (c : ℕ → ℕ) → CombinesToZero p b k n Y c → (i : ℕ) → i < m → i ≢ e → sum_on Y n (λ j. c j * a i j) % p ≡ 0
  pub back : (Y : ℕ → Bool) (c : ℕ → ℕ) → ((i : ℕ) → i < m → i ≢ e → sum_on Y n (λ j. c j * a i j) % p ≡ 0) → CombinesToZero p b k n Y c

-- ---- three forms of it
pub without_row-removed : (p m n : ℕ) (a : ℕ → ℕ → ℕ) (e : ℕ) → e < m → IsRowRemoved p m (m - 1) n a (without_row e a) e
without_row-removed p m n a e el = record {
  row_below = el;
  rows = λ Y c z i il ne. subst (λ k. sum_on Y n (λ j. c j * a k j) % p ≡ 0) (skip-unskip e i ne) (z (unskip e i) (unskip-below e i m el il ne));
  back = λ Y c z i il. z _ (skip-below e i m el il) (skip-other e i);
}

-- the last row
pub last_row-removed : (p m n : ℕ) (a : ℕ → ℕ → ℕ) → IsRowRemoved p (m + 1) m n a a m
last_row-removed p m n a = record {
  row_below = omega arith;
  rows = λ Y c z i il ne. z i (omega arith);
  back = λ Y c z i il. z i (omega arith) (λ q. absurd (omega arith));
}

-- a row that is emptied
pub part-removed : (p m n : ℕ) (a : ℕ → ℕ → ℕ) (e : ℕ) → e < m → IsRowRemoved p m m n a (part (without everything e) everything a) e
part-removed p m n a e el = record {
  row_below = el;
  rows = λ Y c z i il ne. ap (λ y. y % p) (sum_on-ext Y n (λ j. c j * a i j) (λ j. c j * part (without everything e) everything a i j)
      (λ j _ _. ap (λ y. c j * y) (sym (part-shown (without everything e) everything a i j (member-without everything e i refl ne) refl)))) ∙ z i il;
  back = λ Y c z i il. elim (nat_cases i e) [
    | inl q ↦ vanishes-sum p Y n (λ j. c j * part (without everything e) everything a i j)
        (λ j _ _. vanishes-mul p (c j) (part (without everything e) everything a i j)
        (ap (λ y. y % p) (part-other_row (without everything e) everything a i j (gone i q)) ∙ zero-mod p))
    | inr ne ↦ ap (λ y. y % p) (sum_on-ext Y n (λ j. c j * part (without everything e) everything a i j) (λ j. c j * a i j)
        (λ j _ _. ap (λ y. c j * y) (part-shown (without everything e) everything a i j (member-without everything e i refl ne) refl))) ∙ z i il ne
  ];
}
  where
    gone : (i : ℕ) → i ≡ e → without everything e i ≡ false
    gone i q = grind (arith, nat_tests)

module _ (p : ℕ) (prime : IsPrime p) (m k n : ℕ) (a b : ℕ → ℕ → ℕ) (e : ℕ) (removed : IsRowRemoved p m k n a b e) where
  whole-zero : (Y : ℕ → Bool) (c : ℕ → ℕ) → CombinesToZero p b k n Y c → sum_on Y n (λ j. c j * a e j) % p ≡ 0 → CombinesToZero p a m n Y c
  whole-zero Y c z last i il = elim (nat_cases i e) [
    | inl q ↦ subst (λ l. sum_on Y n (λ j. c j * a l j) % p ≡ 0) (sym q) last
    | inr ne ↦ removed.rows Y c z i il ne
  ]

  pub removed-independent : (Y : ℕ → Bool) → IsIndependent p b k n Y → IsIndependent p a m n Y
  removed-independent Y ind c s = ind c (removed.back Y c (λ i il _. s i il))

  -- the rank is the same, or one less
  pub removed-at_most : (X : ℕ → Bool) (r s : ℕ) → IsRank p a m n X r → IsRank p b k n X s → (s ≤ r) × (r ≤ s + 1)
  removed-at_most X r s R S = (
    omega (arith, S.reached.3, R.greatest S.reached.0 S.reached.1 (removed-independent S.reached.0 S.reached.2)),
    with_row (rank_exists p prime (λ _ j. a e j) 1 n X),
  )
    where
      stacked : IsIndependent p (above k b (λ _ j. a e j)) (k + 1) n R.reached.0
      stacked c z = R.reached.2 c
          (whole-zero R.reached.0 c (top-zero p k 1 n b (λ _ j. a e j) R.reached.0 c z)
          (low-zero p k 1 n b (λ _ j. a e j) R.reached.0 c z 0 (omega arith)))

      with_row : (t : ℕ) × IsRank p (λ _ j. a e j) 1 n X t → r ≤ s + 1
      with_row (t, T) = omega (
        arith,
        R.reached.3,
        above-size p prime k 1 n b (λ _ j. a e j) X R.reached.0 s t R.reached.1 stacked S T,
        rank-rows p prime (λ _ j. a e j) 1 n everything X t (λ i j _ _ h. absurd (never h)) T,
        size-everything 1,
      )
        where
          never : true ≡ false → ⊥
          never h = cc

  -- where the unit column of row e is a combination of the columns, the rank falls
  pub removed-falls : (X : ℕ → Bool) (r s : ℕ) → IsRank p a m n X r → IsRank p b k n X s → Combines p a m n X (λ i. identity i e) → s < r
  removed-falls X r s R S comb = elim (le_cases s r (removed-at_most X r s R S).0) [ inr less ↦ less | inl q ↦ absurd (bad (spanned q)) ]
    where
      Z : ℕ → Bool
      Z = S.reached.0

      spanned : s ≡ r → Combines p a m n Z (λ i. identity i e)
      spanned q = combines-through p m n a Z X (λ i. identity i e)
          (combination_of-largest p prime a m n X Z S.reached.1 (removed-independent Z S.reached.2)
          (subst (λ u. IsRank p a m n X u) (sym (S.reached.3 ∙ q)) R)) comb

      bad : Combines p a m n Z (λ i. identity i e) → ⊥
      bad (d, t) = one_non_zero p prime (identity e e) (identity-same e)
          (sym (t e removed.row_below) ∙ vanishes-sum p Z n (λ j. d j * a e j) (λ j jl jh. zero_first j (S.reached.2 d
          (removed.back Z d (λ i il ne. t i il ∙ ap (λ y. y % p) (identity-other i e ne) ∙ zero-mod p)) j jl jh)))
        where
          zero_first : (j : ℕ) → d j % p ≡ 0 → (d j * a e j) % p ≡ 0
          zero_first j z = ap (λ y. y % p) (let q : d j * a e j ≡ a e j * d j = omega arith in q) ∙ vanishes-mul p (a e j) (d j) z

  -- and where the rank falls it is one
  pub falls-combines : (X : ℕ → Bool) (r s : ℕ) → IsRank p a m n X r → IsRank p b k n X s → s < r → Combines p a m n X (λ i. identity i e)
  falls-combines X r s R S less = go (dichotomy p prime everything n k b Y)
    where
      Y : ℕ → Bool
      Y = R.reached.0

      go : Dichotomy p b everything k Y n → Combines p a m n X (λ i. identity i e)
      go (inl (only, _)) = absurd (omega (arith, less, R.reached.3, S.greatest Y R.reached.1 (λ c z. only c (λ i il _. z i il))))
      go (inr t) = combines-within p m n a Y X (λ i. identity i e) R.reached.1 (scaled (inverse p prime C non_zero))
        where
          C : ℕ
          C = sum_on Y n (λ j. t.at j * a e j)

          zeros : CombinesToZero p b k n Y t.at
          zeros i il = t.solves i il refl

          non_zero : sum_on Y n (λ j. t.at j * a e j) % p ≢ 0
          non_zero z = t.non_zero (R.reached.2 t.at (whole-zero Y t.at zeros z) t.place t.below t.member)

          scaled : (y : ℕ) × ((C * y) % p ≡ 1) → Combines p a m n Y (λ i. identity i e)
          scaled (y, h) = ((λ j. y * t.at j), λ i il. ap (λ x. x % p) (pulled i) ∙ at_row i il (nat_cases i e))
            where
              pulled : (i : ℕ) → sum_on Y n (λ j. y * t.at j * a i j) ≡ y * sum_on Y n (λ j. t.at j * a i j)
              pulled i = sum_on-ext Y n (λ j. y * t.at j * a i j) (λ j. y * (t.at j * a i j)) (λ j _ _. omega arith) ∙ sum_on-mul Y n y (λ j. t.at j * a i j)

              at_row : (i : ℕ) → i < m → (i ≡ e) ⊎ (i ≢ e) → (y * sum_on Y n (λ j. t.at j * a i j)) % p ≡ identity i e % p
              at_row i il (inl q) = subst (λ l. (y * sum_on Y n (λ j. t.at j * a l j)) % p ≡ identity l e % p) (sym q)
                  (ap (λ x. x % p) (let g : y * C ≡ C * y = omega arith in g) ∙ h ∙ sym (ap (λ x. x % p) (identity-same e) ∙ mod-eq_of_lt prime.above_one))
              at_row i il (inr ne) = vanishes-mul p y (sum_on Y n (λ j. t.at j * a i j)) (removed.rows Y t.at zeros i il ne)
                  ∙ sym (ap (λ x. x % p) (identity-other i e ne) ∙ zero-mod p)

  pub removed-stays : (X : ℕ → Bool) (r s : ℕ) → IsRank p a m n X r → IsRank p b k n X s → (Combines p a m n X (λ i. identity i e) → ⊥) → s ≡ r
  removed-stays X r s R S never = elim (le_cases s r (removed-at_most X r s R S).0) [ inl q ↦ q | inr less ↦ absurd (never (falls-combines X r s R S less)) ]

  -- of an independent set at most one column goes with the row
  pub removed-drop : (Y : ℕ → Bool) → IsIndependent p a m n Y → (Z : ℕ → Bool) × IsWithin n Z Y × IsIndependent p b k n Z × (size_on Y n ≤ size_on Z n + 1)
  removed-drop Y ind = go (rank_exists p prime b k n Y)
    where
      go : (s : ℕ) × IsRank p b k n Y s → (Z : ℕ → Bool) × IsWithin n Z Y × IsIndependent p b k n Z × (size_on Y n ≤ size_on Z n + 1)
      go (s, T) = (
        T.reached.0,
        T.reached.1,
        T.reached.2,
        omega (arith, T.reached.3, (removed-at_most Y (size_on Y n) s (rank_of-independent p a m n Y ind) T).1),
      )

  -- where row e is a combination of the others on X, the rank stays
  pub removed-combined : (X : ℕ → Bool) (r s : ℕ) (y : ℕ → ℕ) → y e % p ≢ 0 → ((j : ℕ) → j < n → X j ≡ true → sum_below m (λ t. y t * a t j) % p ≡ 0) →
      IsRank p a m n X r → IsRank p b k n X s → s ≡ r
  removed-combined X r s y ne zeros R S = removed-stays X r s R S never
    where
      -- the rows' combination gives y e at the unit column, and zero at each column of X
      never : Combines p a m n X (λ i. identity i e) → ⊥
      never (c, t) = ne (sym (ap (λ x. x % p) (sum-identity_right m e y removed.row_below))
          ∙ sym (agree-sum p everything m (λ i. y i * sum_on X n (λ j. c j * a i j)) (λ i. y i * identity i e)
          (λ i il _. agree-mul p (y i) (sum_on X n (λ j. c j * a i j)) (identity i e) (t i il)))
          ∙ ap (λ x. x % p) (sym (sum-product m n (λ _ i. y i) a X c 0))
          ∙ vanishes-sum p X n (λ j. c j * product m (λ _ i. y i) a 0 j) (λ j jl jh. vanishes-mul p (c j) (product m (λ _ i. y i) a 0 j) (zeros j jl jh)))

  -- ---- read from a tableau: P = S * a with a base B within X, and the columns of X are zero in P at each row without base
  module _ (S U P : ℕ → ℕ → ℕ) (B : ℕ → Bool) (row : ℕ → ℕ) (X : ℕ → Bool) (inv : IsInverse p m S U)
      (same : Agree p m n P (product m S a)) (base : IsBase p P m n B row) (inside : IsWithin n B X)
      (zeros : (i j : ℕ) → i < m → j < n → X j ≡ true → HasNoBase n B row i → P i j % p ≡ 0) where
    unit-column : (i : ℕ) → product m S identity i e ≡ S i e
    unit-column i = sum-identity_right m e (λ t. S i t) removed.row_below

    -- the unit column is a combination exactly where column e of S is zero at each row without base
    pub unit-shown : Combines p a m n X (λ i. identity i e) → (i : ℕ) → i < m → HasNoBase n B row i → S i e % p ≡ 0
    unit-shown comb i il none = ap (λ y. y % p) (sym (unit-column i)) ∙ base-combines p prime P m n B row base (λ i. product m S identity i e)
        (combines-through p m n P B X (λ i. product m S identity i e)
        (λ j jl jh. combines_of-base p prime P m n B row base (λ i. P i j) (λ i il none. zeros i j il jl jh none))
        (combines-product p m n S a P X (λ i. identity i e) same comb)) i il none

    pub unit-combines : ((i : ℕ) → i < m → HasNoBase n B row i → S i e % p ≡ 0) → Combines p a m n X (λ i. identity i e)
    unit-combines shown = combines_of-product p prime m n S U a P X (λ i. identity i e) inv same
        (combines-within p m n P B X (λ i. product m S identity i e) inside
        (combines_of-base p prime P m n B row base (λ i. product m S identity i e) (λ i il none. ap (λ y. y % p) (unit-column i) ∙ shown i il none)))

    NonZeroRow : ℕ → Type 0
    NonZeroRow i = HasNoBase n B row i × (S i e % p ≢ 0)

    row_or_none : ((i : ℕ) × (i < m) × NonZeroRow i) ⊎ ((i : ℕ) → i < m → NonZeroRow i → ⊥)
    unfolding NonZeroRow
    row_or_none = search_below m NonZeroRow (λ i il. at i (base_or_none p prime P m n B row base i) (zero_cases (S i e % p)))
      where
        at : (i : ℕ) → ((b : ℕ) × (b < n) × (B b ≡ true) × (row b ≡ i)) ⊎ HasNoBase n B row i → (S i e % p ≡ 0)
            ⊎ (S i e % p ≢ 0) → NonZeroRow i ⊎ (NonZeroRow i → ⊥)
        at i (inl (b, bl, bh, q)) d = inr (λ w. w.0 b bl bh q)
        at i (inr none) (inl z) = inr (λ w. w.1 z)
        at i (inr none) (inr ne) = inl (none, ne)

    -- the rank stays exactly where column e of S is not zero at some row without base
    pub tableau-stays : (r s : ℕ) → IsRank p a m n X r → IsRank p b k n X s → (i : ℕ) → i < m → HasNoBase n B row i → S i e % p ≢ 0 → s ≡ r
    tableau-stays r s R T i il none ne = removed-stays X r s R T (λ comb. ne (unit-shown comb i il none))

    pub stays-tableau : (r s : ℕ) → IsRank p a m n X r → IsRank p b k n X s → s ≡ r → (i : ℕ) × (i < m) × HasNoBase n B row i × (S i e % p ≢ 0)
    unfolding NonZeroRow
    stays-tableau r s R T q = go row_or_none
      where
        go : ((i : ℕ) × (i < m) × NonZeroRow i) ⊎ ((i : ℕ) → i < m → NonZeroRow i → ⊥) → (i : ℕ) × (i < m) × HasNoBase n B row i × (S i e % p ≢ 0)
        go (inl (i, il, w)) = (i, il, w.0, w.1)
        go (inr none) = absurd (omega (arith, q, removed-falls X r s R T (unit-combines (λ i il h. zero_at i il h (zero_cases (S i e % p))))))
          where
            zero_at : (i : ℕ) → i < m → HasNoBase n B row i → (S i e % p ≡ 0) ⊎ (S i e % p ≢ 0) → S i e % p ≡ 0
            zero_at i il h (inl z) = z
            zero_at i il h (inr ne) = absurd (none i il (h, ne))
