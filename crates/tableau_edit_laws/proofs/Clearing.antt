-- A pivot at a column of S.
use Rattle.std.proofs.Common.{◌≡◌, ℕ, ◌+◌, ◌-◌, ◌*◌, ◌%◌, ◌<◌, ◌≢◌, true, false, cond, eqb, inl, inr, refl, ap, sym, subst, ◌∙◌, arith}
use Rattle.std.proofs.Math.Nat.{zero-mod, mod-eq_of_lt}
use Rattle.std.proofs.lemmas.Bool.Decides.{nat_tests}
use Rattle.residue_theory.specs.Residues.{IsPrime}
use Rattle.residue_theory.specs.Sets.{everything}
use Rattle.residue_theory.proofs.SumLaws.{nat_cases, sum_on-add, sum_on-ext, sum_on-mul}
use Rattle.residue_theory.proofs.ResidueLaws.{agree-add, agree-mul, agree-sum, agree_of, lacks, vanishes-mul, vanishes_factor}
use Rattle.linear_algebra.specs.Products.{product, identity, Agree, IsInverse}
use Rattle.linear_algebra_laws.proofs.Entries.{identity-same, identity-other}
use Rattle.linear_algebra_laws.proofs.Products.{sum-identity_right}
use Rattle.row_table.specs.Places.{with_unit}
use Rattle.row_table.specs.Reductions.{IsReduced}

module _ (p : ℕ) (prime : IsPrime p) where
  -- what is the same with a factor that is not zero is the same
  cancel-factor : (c x y : ℕ) → c % p ≢ 0 → (c * x) % p ≡ (c * y) % p → x % p ≡ y % p
  cancel-factor c x y ne h = agree_of p x ((p - 1) * y) y (vanishes_factor p prime c (x + (p - 1) * y) ne
      (ap (λ s. s % p) (spread c x (p - 1) y)
      ∙ agree-add p (c * x) (c * y) ((p - 1) * (c * y)) ((p - 1) * (c * y)) h refl ∙ lacks p prime (c * y))) (lacks p prime y)
    where
      spread : (c x k y : ℕ) → c * (x + k * y) ≡ c * x + k * (c * y)
      spread c x k y = omega arith

  -- and with a summand
  cancel-sum : (x y z : ℕ) → (x + z) % p ≡ (y + z) % p → x % p ≡ y % p
  cancel-sum x y z h = sym (added x) ∙ ap (λ s. s % p) (let q : x + (z + (p - 1) * z) ≡ x + z + (p - 1) * z = omega arith in q)
      ∙ agree-add p (x + z) (y + z) ((p - 1) * z) ((p - 1) * z) h refl
      ∙ ap (λ s. s % p) (let q : y + z + (p - 1) * z ≡ y + (z + (p - 1) * z) = omega arith in q) ∙ added y
    where
      added : (w : ℕ) → (w + (z + (p - 1) * z)) % p ≡ w % p
      added w = agree-add p w w (z + (p - 1) * z) 0 refl (lacks p prime z ∙ sym (zero-mod p))
          ∙ ap (λ s. s % p) (let q : w + 0 ≡ w = omega arith in q)

  -- products follow
  module _ (m n : ℕ) (S T : ℕ → ℕ → ℕ) (k : ℕ) (c : ℕ → ℕ) (cleared : IsReduced p m m S T k c) (a : ℕ → ℕ → ℕ) where
    product-here : (j : ℕ) → product m S a k j % p ≡ (c k * product m T a k j) % p
    product-here j = agree-sum p everything m (λ t. S k t * a t j) (λ t. c k * (T k t * a t j))
        (λ t tl _. ap (λ s. s % p) (let q : S k t * a t j ≡ a t j * S k t = omega arith in q)
        ∙ agree-mul p (a t j) (S k t) (c k * T k t) (cleared.here t tl) ∙ ap (λ s. s % p) (turned (a t j) (c k) (T k t)))
        ∙ ap (λ s. s % p) (sum_on-mul everything m (c k) (λ t. T k t * a t j))
      where
        turned : (x y z : ℕ) → x * (y * z) ≡ y * (z * x)
        turned x y z = omega arith

    product-others : (i j : ℕ) → i < m → i ≢ k → product m S a i j % p ≡ (product m T a i j + c i * product m T a k j) % p
    product-others i j il ne = agree-sum p everything m (λ t. S i t * a t j) (λ t. T i t * a t j + c i * (T k t * a t j))
        (λ t tl _. ap (λ s. s % p) (let q : S i t * a t j ≡ a t j * S i t = omega arith in q)
        ∙ agree-mul p (a t j) (S i t) (T i t + c i * T k t) (cleared.others i t il tl ne)
        ∙ ap (λ s. s % p) (turned (a t j) (T i t) (c i) (T k t)))
        ∙ ap (λ s. s % p) (sum_on-add everything m (λ t. T i t * a t j) (λ t. c i * (T k t * a t j))
        ∙ ap (λ s. product m T a i j + s) (sum_on-mul everything m (c i) (λ t. T k t * a t j)))
      where
        turned : (x y z w : ℕ) → x * (y + z * w) ≡ y * x + z * (w * x)
        turned x y z w = omega arith

    -- where b is spread as the product is, it is the product
    pub cleared-product : (P R : ℕ → ℕ → ℕ) → k < m → c k % p ≢ 0 → Agree p m n P (product m S a) → IsReduced p m n P R k c → Agree p m n R (product m T a)
    cleared-product P R kl ck same spread i j il jl = elim (nat_cases i k) [
      | inl q ↦ subst (λ i. R i j % p ≡ product m T a i j % p) (sym q) (at_k j jl)
      | inr ne ↦ cancel-sum (R i j) (product m T a i j) (c i * R k j) (sym (spread.others i j il jl ne) ∙ same i j il jl ∙ product-others i j il ne
          ∙ agree-add p (product m T a i j) (product m T a i j) (c i * product m T a k j) (c i * R k j) refl
          (agree-mul p (c i) (product m T a k j) (R k j) (sym (at_k j jl))))
    ]
      where
        at_k : (j : ℕ) → j < n → R k j % p ≡ product m T a k j % p
        at_k j jl = cancel-factor (c k) (R k j) (product m T a k j) ck (sym (spread.here j jl) ∙ same k j kl jl ∙ product-here j)

  module _ (m : ℕ) (S U T : ℕ → ℕ → ℕ) (e k : ℕ) (el : e < m) (kl : k < m) (ne : S k e % p ≢ 0) (inv : IsInverse p m S U)
      (cleared : IsReduced p m m S T k (λ i. S i e)) where
    one-there : T k e % p ≡ 1
    one-there = cancel-factor (S k e) (T k e) 1 ne (sym (cleared.here e el) ∙ ap (λ s. s % p) (let q : S k e ≡ S k e * 1 = omega arith in q))
        ∙ mod-eq_of_lt prime.above_one

    pub zero-elsewhere : (i : ℕ) → i < m → i ≢ k → T i e % p ≡ 0
    zero-elsewhere i il other = cancel-sum (T i e) 0 (S i e) (
        agree-add p (T i e) (T i e) (S i e) (S i e * T k e) refl
        (sym (agree-mul p (S i e) (T k e) 1 (one-there ∙ sym (mod-eq_of_lt prime.above_one)) ∙ ap (λ s. s % p) (let q : S i e * 1 ≡ S i e = omega arith in q)))
        ∙ sym (cleared.others i e il el other) ∙ ap (λ s. s % p) (let q : S i e ≡ 0 + S i e = omega arith in q)) ∙ zero-mod p

    unit-column : (t j : ℕ) → j ≢ k → with_unit U e k t j ≡ U t j
    unit-column t j other = ap (λ b. cond b (identity t e) (U t j)) (differs j k other)
      where
        differs : (x y : ℕ) → x ≢ y → eqb x y ≡ false
        differs x y ne = grind (arith, nat_tests)

    unit-here : (t : ℕ) → with_unit U e k t k ≡ identity t e
    unit-here t = ap (λ b. cond b (identity t e) (U t k)) (same k)
      where
        same : (x : ℕ) → eqb x x ≡ true
        same x = grind (arith, nat_tests)

    product-unit : (i : ℕ) → product m T (with_unit U e k) i k ≡ T i e
    product-unit i = sum_on-ext everything m (λ t. T i t * with_unit U e k t k) (λ t. T i t * identity t e) (λ t _ _. ap (λ x. T i t * x) (unit-here t))
        ∙ sum-identity_right m e (λ t. T i t) el

    product-other : (i j : ℕ) → j ≢ k → product m T (with_unit U e k) i j ≡ product m T U i j
    product-other i j other = sum_on-ext everything m (λ t. T i t * with_unit U e k t j) (λ t. T i t * U t j)
        (λ t _ _. ap (λ x. T i t * x) (unit-column t j other))

    -- row k of T * U
    row-k : (j : ℕ) → j < m → j ≢ k → product m T U k j % p ≡ 0
    row-k j jl other = vanishes_factor p prime (S k e) (product m T U k j) ne (sym (product-here m m S T k (λ i. S i e) cleared U j) ∙ inv k j kl jl
        ∙ ap (λ s. s % p) (identity-other k j (λ q. other (sym q))) ∙ zero-mod p)

    pub cleared-inverse : IsInverse p m T (with_unit U e k)
    cleared-inverse i j il jl = elim (nat_cases j k) [
      | inl q ↦ subst (λ j. product m T (with_unit U e k) i j % p ≡ identity i j % p) (sym q)
          (ap (λ s. s % p) (product-unit i) ∙ elim (nat_cases i k) [
            | inl f ↦ subst (λ i. T i e % p ≡ identity i k % p) (sym f) (one-there ∙ sym (ap (λ s. s % p) (identity-same k) ∙ mod-eq_of_lt prime.above_one))
            | inr other ↦ zero-elsewhere i il other ∙ sym (ap (λ s. s % p) (identity-other i k other) ∙ zero-mod p)
          ])
      | inr other ↦ ap (λ s. s % p) (product-other i j other) ∙ elim (nat_cases i k) [
        | inl f ↦ subst (λ i. product m T U i j % p ≡ identity i j % p) (sym f)
            (row-k j jl other ∙ sym (ap (λ s. s % p) (identity-other k j (λ q. other (sym q))) ∙ zero-mod p))
        | inr apart ↦ sym (ap (λ s. s % p) (let q : product m T U i j + 0 ≡ product m T U i j = omega arith in q))
            ∙ agree-add p (product m T U i j) (product m T U i j) 0 (S i e * product m T U k j) refl
            (zero-mod p ∙ sym (vanishes-mul p (S i e) (product m T U k j) (row-k j jl other)))
            ∙ sym (product-others m m S T k (λ i. S i e) cleared U i j il apart) ∙ inv i j il jl
      ]
    ]
