-- The steps of elimination, and the rank that it ends with.
use Rattle.std.proofs.Common.{◌≡◌, ℕ, ◌+◌, ◌*◌, ◌%◌, ◌<◌, ◌≤◌, ◌≢◌, Bool, true, false, ◌&&◌, inl, inr, refl, ap, sym, subst, ◌∙◌, arith}
use Rattle.residue_theory.specs.Sets.{with_one, both}
use Rattle.residue_theory.specs.Sums.{size_on}
use Rattle.residue_theory.specs.Residues.{IsPrime}
use Rattle.linear_algebra.specs.Columns.{IsRank}
use Rattle.linear_algebra.specs.RowOperations.{IsRowAdded, IsPivoted}
use Rattle.linear_algebra.specs.Kernels.{SameKernel}
use Rattle.linear_algebra.specs.Bases.{IsBase}
use Rattle.residue_theory.proofs.SumLaws.{nat_cases, sum_on-same, size-none}
use Rattle.residue_theory.proofs.SetLaws.{differ, with_one-other, with_one-member, with_one-new}
use Rattle.residue_theory.proofs.CountLaws.{sum-with_one}
use Rattle.linear_algebra_laws.proofs.Bases.{rank_of-base}
use Rattle.residue_theory.proofs.ResidueLaws.{vanishes-add, vanishes-mul}
use Rattle.linear_algebra_laws.proofs.Kernels.{kernel-refl, kernel-trans, kernel-sym, rank_of-kernel, row_added-kernel}
use Rattle.linear_algebra_laws.proofs.Pivots.{base-pivot, row_set, row_set-same, row_set-other}

-- how far elimination has come: a is a0 after row operations, its first r rows have base columns, and the columns of X below v are zero in the others
pub record IsReduced (p m n : ℕ) (a0 a : ℕ → ℕ → ℕ) (X : ℕ → Bool) (v r : ℕ) : Type 0 where
  pub kernel : SameKernel p m n a0 a
  pub B : ℕ → Bool
  pub row : ℕ → ℕ
  pub base : IsBase p a m n B row
  pub inside : (b : ℕ) → b < n → B b ≡ true → X b ≡ true
  pub before : (b : ℕ) → b < n → B b ≡ true → b < v
  pub rows : (b : ℕ) → b < n → B b ≡ true → row b < r
  pub each_row : (i : ℕ) → i < r → (b : ℕ) × (b < n) × (B b ≡ true) × (row b ≡ i)
  pub count : size_on B n ≡ r
  pub zero : (i j : ℕ) → r ≤ i → i < m → j < n → j < v → X j ≡ true → a i j % p ≡ 0

pub reduced_at_start : (p m n : ℕ) (a : ℕ → ℕ → ℕ) (X : ℕ → Bool) → IsReduced p m n a a X 0 0
reduced_at_start p m n a X = record {
  kernel = kernel-refl p m n a;
  B = λ _. false;
  row = λ _. 0;
  base = record {
    row_below = λ b l h. absurd (differ refl h);
    one = λ b l h. absurd (differ refl h);
    zero = λ b i l h. absurd (differ refl h);
    distinct = λ b c l k h. absurd (differ refl h);
  };
  inside = λ b l h. absurd (differ refl h);
  before = λ b l h. absurd (differ refl h);
  rows = λ b l h. absurd (differ refl h);
  each_row = λ i none. absurd (omega arith);
  count = size-none n;
  zero = λ i j _ _ _ none. absurd (omega arith);
}

module _ (p m n : ℕ) (a0 a : ℕ → ℕ → ℕ) (X : ℕ → Bool) (v r : ℕ) (so_far : IsReduced p m n a0 a X v r) where
  -- column v is no member, or zero below the rows that are used
  pub reduced_skip : (X v ≡ true → (i : ℕ) → r ≤ i → i < m → a i v % p ≡ 0) → IsReduced p m n a0 a X (v + 1) r
  reduced_skip clear = record {
    kernel = so_far.kernel;
    base = so_far.base;
    B = so_far.B;
    row = so_far.row;
    inside = so_far.inside;
    rows = so_far.rows;
    each_row = so_far.each_row;
    count = so_far.count;
    before = λ b l h. let less : b < v = so_far.before b l h in omega arith;
    zero = zero;
  }
    where
      zero : (i j : ℕ) → r ≤ i → i < m → j < n → j < v + 1 → X j ≡ true → a i j % p ≡ 0
      zero i j le il jl jv jh = elim (nat_cases j v) [
        | inl q ↦ subst (λ x. a i x % p ≡ 0) (sym q) (clear (subst (λ x. X x ≡ true) q jh) i le il)
        | inr ne ↦ so_far.zero i j le il jl (omega arith) jh
      ]

  -- a row that is not used is added to another
  pub reduced_add : (b : ℕ → ℕ → ℕ) (t s k : ℕ) → IsRowAdded p m n a b t s k → t ≢ s → r ≤ t → t < m → r ≤ s → s < m → IsReduced p m n a0 b X v r
  reduced_add b t s k added apart rt tl rs sl = record {
    before = so_far.before;
    B = so_far.B;
    row = so_far.row;
    inside = so_far.inside;
    rows = so_far.rows;
    each_row = so_far.each_row;
    count = so_far.count;
    kernel = kernel-trans p m n a0 a b so_far.kernel (row_added-kernel p m n a b t s k added apart tl sl);
    base = record {
      row_below = so_far.base.row_below;
      one = λ c l h. added.others (so_far.row c) c (so_far.base.row_below c l h) l
          (let less : so_far.row c < r = so_far.rows c l h in omega arith) ∙ so_far.base.one c l h;
      zero = λ c i l h il ne. stays c i l il (so_far.base.zero c t l h tl (let less : so_far.row c < r = so_far.rows c l h in omega arith))
          (so_far.base.zero c s l h sl (let less : so_far.row c < r = so_far.rows c l h in omega arith)) (so_far.base.zero c i l h il ne);
      distinct = so_far.base.distinct;
    };
    zero = λ i j le il jl jv jh. stays j i jl il (so_far.zero t j rt tl jl jv jh) (so_far.zero s j rs sl jl jv jh) (so_far.zero i j le il jl jv jh);
  }
    where
      stays : (j i : ℕ) → j < n → i < m → a t j % p ≡ 0 → a s j % p ≡ 0 → a i j % p ≡ 0 → b i j % p ≡ 0
      stays j i jl il zt zs zi = elim (nat_cases i t) [
        | inl q ↦ subst (λ x. b x j % p ≡ 0) (sym q) (added.changed j jl ∙ vanishes-add p (a t j) (k * a s j) zt (vanishes-mul p k (a s j) zs))
        | inr ne ↦ added.others i j il jl ne ∙ zi
      ]

  -- the first row that is not used has its pivot at column v
  pub reduced_pivot : (b : ℕ → ℕ → ℕ) → v < n → X v ≡ true → r < m → IsPivoted p m n a b r v → IsReduced p m n a0 b X (v + 1) (r + 1)
  reduced_pivot b vl vh rl pivoted = record {
    kernel = kernel-trans p m n a0 a b so_far.kernel pivoted.kernel;
    B = with_one so_far.B v;
    row = row_set so_far.row v r;
    base = base-pivot p a b m n so_far.B so_far.row r v so_far.base pivoted rl (λ c cl ch. let less : so_far.row c < r = so_far.rows c cl ch in omega arith);
    inside = λ c cl ch. elim (nat_cases c v) [ inl q ↦ subst (λ x. X x ≡ true) (sym q) vh | inr ne ↦ so_far.inside c cl (old c ch ne) ];
    before = λ c cl ch. elim (nat_cases c v) [ inl q ↦ omega arith | inr ne ↦ (let less : c < v = so_far.before c cl (old c ch ne) in omega arith) ];
    rows = rows;
    each_row = each_row;
    count = sum-with_one so_far.B n v (λ _. 1) vl fresh ∙ ap (λ x. x + 1) so_far.count;
    zero = zero;
  }
    where
      old : (c : ℕ) → with_one so_far.B v c ≡ true → c ≢ v → so_far.B c ≡ true
      old c h ne = with_one-other so_far.B v c h ne

      fresh : so_far.B v ≡ false
      fresh = is_fresh (so_far.B v) refl
        where
          is_fresh : (w : Bool) → so_far.B v ≡ w → so_far.B v ≡ false
          is_fresh false e = e
          is_fresh true e = absurd (let less : v < v = so_far.before v vl e in omega arith)

      rows : (c : ℕ) → c < n → with_one so_far.B v c ≡ true → row_set so_far.row v r c < r + 1
      rows c cl ch = elim (nat_cases c v) [
        | inl q ↦ omega (arith, ap (λ x. row_set so_far.row v r x) q, row_set-same so_far.row v r)
        | inr ne ↦ omega (arith, row_set-other so_far.row v r c ne, so_far.rows c cl (old c ch ne))
      ]

      each_row : (i : ℕ) → i < r + 1 → (c : ℕ) × (c < n) × (with_one so_far.B v c ≡ true) × (row_set so_far.row v r c ≡ i)
      each_row i il = elim (nat_cases i r) [
        | inl q ↦ (v, vl, with_one-new so_far.B v, row_set-same so_far.row v r ∙ sym q)
        | inr ne ↦ earlier (so_far.each_row i (omega arith))
      ]
        where
          earlier : (c : ℕ) × (c < n) × (so_far.B c ≡ true) × (so_far.row c ≡ i) → (c : ℕ) × (c < n)
              × (with_one so_far.B v c ≡ true) × (row_set so_far.row v r c ≡ i)
          earlier (c, cl, ch, e) = (
            c,
            cl,
            with_one-member so_far.B v c ch,
            row_set-other so_far.row v r c (λ q. differ fresh (subst (λ x. so_far.B x ≡ true) q ch)) ∙ e,
          )

      zero : (i j : ℕ) → r + 1 ≤ i → i < m → j < n → j < v + 1 → X j ≡ true → b i j % p ≡ 0
      zero i j le il jl jv jh = elim (nat_cases j v) [
        | inl q ↦ subst (λ x. b i x % p ≡ 0) (sym q) (pivoted.zero i il (omega arith))
        | inr ne ↦ pivoted.keeps j jl (so_far.zero r j (omega arith) rl jl (omega arith) jh) i il ∙ so_far.zero i j (omega arith) il jl (omega arith) jh
      ]

-- when each column was seen, the number of rows used is the rank
pub reduced-rank : (p : ℕ) → IsPrime p → (m n : ℕ) (a0 a : ℕ → ℕ → ℕ) (X : ℕ → Bool) (v r : ℕ) → n ≤ v → IsReduced p m n a0 a X v r → IsRank p a0 m n X r
reduced-rank p prime m n a0 a X v r all so_far =
    rank_of-kernel p m n a a0 X r (kernel-sym p m n a0 a so_far.kernel)
    (subst (λ s. IsRank p a m n X s) (counted ∙ so_far.count) (rank_of-base p prime a m n so_far.B so_far.row so_far.base X shown))
  where
    only_b : (b x : Bool) → (b ≡ true → x ≡ true) → b && x ≡ b
    only_b b x h = grind arith

    both_in : (j : ℕ) → j < n → both so_far.B X j ≡ so_far.B j
    both_in j jl = only_b (so_far.B j) (X j) (so_far.inside j jl)

    counted : size_on (both so_far.B X) n ≡ size_on so_far.B n
    counted = sum_on-same (both so_far.B X) so_far.B n (λ _. 1) both_in

    shown : (j i : ℕ) → j < n → X j ≡ true → i < m → a i j % p ≢ 0 → (b : ℕ) × (b < n) × (both so_far.B X b ≡ true) × (so_far.row b ≡ i)
    shown j i jl jh il ne = found (so_far.each_row i (small (λ le. ne (so_far.zero i j le il jl (omega arith) jh))))
      where
        small : (r ≤ i → ⊥) → i < r
        small h = omega arith

        found : (b : ℕ) × (b < n) × (so_far.B b ≡ true) × (so_far.row b ≡ i) → (b : ℕ) × (b < n) × (both so_far.B X b ≡ true) × (so_far.row b ≡ i)
        found (b, bl, bh, e) = (b, bl, both_in b bl ∙ bh, e)
