-- A pivot at a free row adds its column to the base.
use Rattle.std.proofs.Common.{◌≡◌, ℕ, ◌+◌, ◌*◌, ◌%◌, ◌<◌, ◌≤◌, ◌≢◌, Bool, true, cond, eqb, ◌⊎◌, inl, inr, refl, ap, sym, subst, ◌∙◌, arith}
use Rattle.std.proofs.lemmas.Bool.Decides.{nat_tests}
use Rattle.residue_theory.specs.Sets.{with_one}
use Rattle.residue_theory.specs.Residues.{IsPrime}
use Rattle.linear_algebra.specs.Bases.{IsBase}
use Rattle.linear_algebra.specs.RowOperations.{IsRowAdded, IsRowScaled, IsPivoted}
use Rattle.linear_algebra.specs.Kernels.{SameKernel}
use Rattle.linear_algebra_laws.proofs.Kernels.{kernel-trans, row_added-kernel, row_scaled-kernel}
use Rattle.residue_theory.proofs.ResidueLaws.{vanishes-mul, agree-add, agree-mul}
use Rattle.std.proofs.Math.Nat.{zero-mod, mod-mod}
use Rattle.residue_theory.proofs.SumLaws.{nat_cases}
use Rattle.residue_theory.proofs.SetLaws.{with_one-other}

-- the rows with v's set to r
abbrev pub row_set : (ℕ → ℕ) → ℕ → ℕ → ℕ → ℕ
row_set row v r j = cond (eqb j v) r (row j)

pub row_set-same : (row : ℕ → ℕ) (v r : ℕ) → row_set row v r v ≡ r
row_set-same row v r = grind (arith, nat_tests)

pub row_set-other : (row : ℕ → ℕ) (v r j : ℕ) → j ≢ v → row_set row v r j ≡ row j
row_set-other row v r j ne = grind (arith, nat_tests)

module _ (p : ℕ) (a b : ℕ → ℕ → ℕ) (m n : ℕ) (B : ℕ → Bool) (row : ℕ → ℕ) (r v : ℕ) (base : IsBase p a m n B row) (pivoted : IsPivoted p m n a b r v)
    (rl : r < m) (free : (c : ℕ) → c < n → B c ≡ true → r ≢ row c) where
  -- a base column of another row stays as it was
  stays : (c i : ℕ) → c < n → B c ≡ true → i < m → b i c % p ≡ a i c % p
  stays c i cl ch il = pivoted.keeps c cl (base.zero c r cl ch rl (free c cl ch)) i il

  pub base-pivot : IsBase p b m n (with_one B v) (row_set row v r)
  base-pivot = record { row_below = row_below; one = one; zero = zero_at; distinct = distinct }
    where
      old : (c : ℕ) → with_one B v c ≡ true → c ≢ v → B c ≡ true
      old c h ne = with_one-other B v c h ne

      row_below : (c : ℕ) → c < n → with_one B v c ≡ true → row_set row v r c < m
      row_below c cl ch = elim (nat_cases c v) [
        | inl q ↦ subst (λ x. row_set row v r x < m) (sym q) (subst (λ x. x < m) (sym (row_set-same row v r)) rl)
        | inr ne ↦ subst (λ x. x < m) (sym (row_set-other row v r c ne)) (base.row_below c cl (old c ch ne))
      ]

      one : (c : ℕ) → c < n → with_one B v c ≡ true → b (row_set row v r c) c % p ≡ 1
      one c cl ch = elim (nat_cases c v) [
        | inl q ↦ subst (λ x. b (row_set row v r x) x % p ≡ 1) (sym q) (ap (λ x. b x v % p) (row_set-same row v r) ∙ pivoted.one)
        | inr ne ↦ ap (λ x. b x c % p) (row_set-other row v r c ne)
            ∙ stays c (row c) cl (old c ch ne) (base.row_below c cl (old c ch ne)) ∙ base.one c cl (old c ch ne)
      ]

      zero_at : (c i : ℕ) → c < n → with_one B v c ≡ true → i < m → i ≢ row_set row v r c → b i c % p ≡ 0
      zero_at c i cl ch il apart = elim (nat_cases c v) [
        | inl q ↦ subst (λ x. b i x % p ≡ 0) (sym q) (pivoted.zero i il (λ e. apart (e ∙ sym (row_set-same row v r) ∙ ap (λ x. row_set row v r x) (sym q))))
        | inr ne ↦ stays c i cl (old c ch ne) il ∙ base.zero c i cl (old c ch ne) il (λ e. apart (e ∙ sym (row_set-other row v r c ne)))
      ]

      distinct : (c d : ℕ) → c < n → d < n → with_one B v c ≡ true → with_one B v d ≡ true → row_set row v r c ≡ row_set row v r d → c ≡ d
      distinct c d cl dl ch dh e = both_cases (nat_cases c v) (nat_cases d v)
        where
          both_cases : (c ≡ v) ⊎ (c ≢ v) → (d ≡ v) ⊎ (d ≢ v) → c ≡ d
          both_cases (inl q) (inl s) = q ∙ sym s
          both_cases (inl q) (inr ne) = absurd
              (free d dl (old d dh ne) (sym (row_set-same row v r) ∙ ap (λ x. row_set row v r x) (sym q) ∙ e
              ∙ row_set-other row v r d ne))
          both_cases (inr ne) (inl s) = absurd
              (free c cl (old c ch ne) (sym (row_set-same row v r) ∙ ap (λ x. row_set row v r x) (sym s) ∙ sym e
              ∙ row_set-other row v r c ne))
          both_cases (inr ne) (inr other) = base.distinct c d cl dl (old c ch ne) (old d dh other)
              (sym (row_set-other row v r c ne) ∙ e ∙ row_set-other row v r d other)

-- ---- the steps of a pivot
-- a pivot at row r and column v that has cleared the rows below i
pub record IsPivotedBelow (p m n : ℕ) (a b : ℕ → ℕ → ℕ) (r v i : ℕ) : Type 0 where
  pub kernel : SameKernel p m n a b
  pub one : b r v % p ≡ 1
  pub zero : (k : ℕ) → k < i → k < m → k ≢ r → b k v % p ≡ 0
  pub keeps : (j : ℕ) → j < n → a r j % p ≡ 0 → (k : ℕ) → k < m → b k j % p ≡ a k j % p

pub pivot-start : (p : ℕ) → IsPrime p → (m n : ℕ) (a b : ℕ → ℕ → ℕ) (r v w : ℕ) → r < m → v < n → w % p ≢ 0 → w * a r v % p ≡ 1 → IsRowScaled p m n a b r w →
    IsPivotedBelow p m n a b r v 0
pivot-start p prime m n a b r v w rl vl ne one scaled = record {
  kernel = row_scaled-kernel p m n a b r w scaled prime rl ne;
  one = scaled.changed v vl ∙ one;
  zero = λ k none. absurd (omega arith);
  keeps = λ j jl z k kl. elim (nat_cases k r) [
    | inl q ↦ subst (λ x. b x j % p ≡ a x j % p) (sym q) (scaled.changed j jl ∙ vanishes-mul p w (a r j) z ∙ sym z)
    | inr other ↦ scaled.others k j kl jl other
  ];
}

module _ (p m n : ℕ) (a b : ℕ → ℕ → ℕ) (r v i : ℕ) (so_far : IsPivotedBelow p m n a b r v i) where
  pub pivot-skip : i ≡ r → IsPivotedBelow p m n a b r v (i + 1)
  pivot-skip e = record {
    kernel = so_far.kernel;
    one = so_far.one;
    keeps = so_far.keeps;
    zero = λ k less kl ne. so_far.zero k (omega arith) kl ne;
  }

  pub pivot-add : (d : ℕ → ℕ → ℕ) (k : ℕ) → i ≢ r → i < m → r < m → v < n → IsRowAdded p m n b d i r k →
      (k + b i v) % p ≡ 0 → IsPivotedBelow p m n a d r v (i + 1)
  pivot-add d k apart il rl vl added cancels = record {
    kernel = kernel-trans p m n a b d so_far.kernel (row_added-kernel p m n b d i r k added apart il rl);
    one = added.others r v rl vl (λ q. apart (sym q)) ∙ so_far.one;
    zero = λ t less tl ne. elim (nat_cases t i) [
      | inl q ↦ subst (λ x. d x v % p ≡ 0) (sym q) now_zero
      | inr other ↦ added.others t v tl vl other ∙ so_far.zero t (omega arith) tl ne
    ];
    keeps = λ j jl z t tl. elim (nat_cases t i) [
      | inl q ↦ subst (λ x. d x j % p ≡ a x j % p) (sym q)
          (added.changed j jl ∙ agree-add p (b i j) (a i j) (k * b r j) 0 (so_far.keeps j jl z i il)
          (vanishes-mul p k (b r j) (so_far.keeps j jl z r rl ∙ z) ∙ sym (zero-mod p)) ∙ ap (λ x. x % p) (omega arith))
      | inr other ↦ added.others t j tl jl other ∙ so_far.keeps j jl z t tl
    ];
  }
    where
      now_zero : d i v % p ≡ 0
      now_zero = added.changed v vl
          ∙ agree-add p (b i v) (b i v) (k * b r v) k refl (agree-mul p k (b r v) 1 (so_far.one ∙ sym one_is_one) ∙ ap (λ x. x % p) (omega arith))
          ∙ ap (λ x. x % p) (omega arith) ∙ cancels
        where
          one_is_one : 1 % p ≡ 1
          one_is_one = sym (ap (λ x. x % p) so_far.one) ∙ mod-mod (b r v) p ∙ so_far.one

  pub pivot-done : m ≤ i → IsPivoted p m n a b r v
  pivot-done all = record {
    kernel = so_far.kernel;
    one = so_far.one;
    keeps = so_far.keeps;
    zero = λ k kl ne. so_far.zero k (omega arith) kl ne;
  }
