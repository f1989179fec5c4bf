-- A row joins a tableau.
use Rattle.std.proofs.Common.{◌≡◌, ℕ, suc, ◌-◌, ◌*◌, ◌%◌, ◌<◌, ◌⊎◌, inl, inr, ap, sym, subst, ◌∙◌, arith}
use Rattle.std.proofs.Math.Nat.{zero-mod, mod-eq_of_lt}
use Rattle.residue_theory.specs.Sets.{everything}
use Rattle.residue_theory.specs.Sums.{sum_below}
use Rattle.residue_theory.proofs.SumLaws.{nat_cases}
use Rattle.residue_theory.proofs.ResidueLaws.{agree-add, agree-mul, agree-sum, vanishes-mul, vanishes-sum}
use Rattle.linear_algebra.specs.Parts.{skip}
use Rattle.linear_algebra.specs.Products.{product, identity, Agree, IsInverse}
use Rattle.linear_algebra_laws.proofs.Entries.{identity-same, identity-other}
use Rattle.linear_algebra_laws.proofs.Products.{product-assoc, sum-identity_right}
use Rattle.linear_algebra_laws.proofs.SkipLaws.{skip-other, skip-unskip, unskip, unskip-below}
use Rattle.tableau_edit_laws.specs.Edits.{IsRowJoined, IsRowIn}
use Rattle.tableau_edit_laws.proofs.Leaving.{sum-skip, skip-identity, rest-zero}

agree-product : (p x y z w : ℕ) → x % p ≡ y % p → z % p ≡ w % p → (x * z) % p ≡ (y * w) % p
agree-product p x y z w f g = agree-mul p x z w g ∙ ap (λ s. s % p) (let q : x * w ≡ w * x = omega arith in q)
    ∙ agree-mul p w x y f ∙ ap (λ s. s % p) (let q : w * y ≡ y * w = omega arith in q)

first-zero : (p x y : ℕ) → x % p ≡ 0 → (x * y) % p ≡ 0
first-zero p x y z = ap (λ s. s % p) (let q : x * y ≡ y * x = omega arith in q) ∙ vanishes-mul p y x z

-- a number of the whole is k, or one of the others
pub skip_cases : (m k i : ℕ) → k < suc m → i < suc m → (i ≡ k) ⊎ ((l : ℕ) × (l < m) × (skip k l ≡ i))
skip_cases m k i kl il = elim (nat_cases i k) [
  | inl q ↦ inl q
  | inr ne ↦ inr (unskip k i, below (unskip k i) (unskip-below k i (suc m) kl il ne), skip-unskip k i ne)
]
  where
    below : (l : ℕ) → l < suc m - 1 → l < m
    below l ll = omega arith

module _ (p m n : ℕ) (a b S U P T V R : ℕ → ℕ → ℕ) (e k : ℕ) (x c d : ℕ → ℕ) (el : e < suc m) (kl : k < suc m)
    (one : 1 < p) (inv : IsInverse p m S U) (same : Agree p m n P (product m S a)) (rows : IsRowIn p m n a b e x)
    (J : IsRowJoined p m n S U P T V R e k x c d) where
  -- the d i times the rows of S
  abbrev combined : ℕ → ℕ
  combined t = sum_below m (λ i. d i * S i t)

  -- ---- S * U
  others-others : (i j : ℕ) → i < m → j < m → product (suc m) T V (skip k i) (skip k j) % p ≡ identity (skip k i) (skip k j) % p
  others-others i j il jl = ap (λ s. s % p) (sum-skip m e (λ t. T (skip k i) t * V t (skip k j)) el)
      ∙ rest-zero p (sum_below m (λ t. T (skip k i) (skip e t) * V (skip e t) (skip k j))) (T (skip k i) e) (V e (skip k j)) (J.s_column i il)
      ∙ agree-sum p everything m (λ t. T (skip k i) (skip e t) * V (skip e t) (skip k j)) (λ t. S i t * U t j)
      (λ t tl _. agree-product p (T (skip k i) (skip e t)) (S i t) (V (skip e t) (skip k j)) (U t j) (J.s_others i t il tl) (J.u_others t j tl jl))
      ∙ inv i j il jl ∙ ap (λ s. s % p) (sym (skip-identity k i j))

  others-new : (i : ℕ) → i < m → product (suc m) T V (skip k i) k % p ≡ identity (skip k i) k % p
  others-new i il = ap (λ s. s % p) (sum-skip m e (λ t. T (skip k i) t * V t k) el)
      ∙ rest-zero p (sum_below m (λ t. T (skip k i) (skip e t) * V (skip e t) k)) (T (skip k i) e) (V e k) (J.s_column i il)
      ∙ vanishes-sum p everything m (λ t. T (skip k i) (skip e t) * V (skip e t) k)
      (λ t tl _. vanishes-mul p (T (skip k i) (skip e t)) (V (skip e t) k) (J.u_column t tl))
      ∙ sym (ap (λ s. s % p) (identity-other (skip k i) k (skip-other k i)) ∙ zero-mod p)

  -- what the d i combine of S * U
  combined-inverse : (j : ℕ) → j < m → sum_below m (λ t. combined t * U t j) % p ≡ d j % p
  combined-inverse j jl = ap (λ s. s % p) (sym (product-assoc m m (λ _ i. d i) S U 0 j))
      ∙ agree-sum p everything m (λ i. d i * product m S U i j) (λ i. d i * identity i j)
      (λ i il _. agree-mul p (d i) (product m S U i j) (identity i j) (inv i j il jl))
      ∙ ap (λ s. s % p) (sum-identity_right m j d jl)

  new-others : (j : ℕ) → j < m → product (suc m) T V k (skip k j) % p ≡ identity k (skip k j) % p
  new-others j jl = ap (λ s. s % p) (sum-skip m e (λ t. T k t * V t (skip k j)) el)
      ∙ agree-add p (sum_below m (λ t. T k (skip e t) * V (skip e t) (skip k j))) (d j) (T k e * V e (skip k j)) (c j)
      (agree-sum p everything m (λ t. T k (skip e t) * V (skip e t) (skip k j)) (λ t. combined t * U t j)
      (λ t tl _. agree-product p (T k (skip e t)) (combined t) (V (skip e t) (skip k j)) (U t j) (J.s_row t tl) (J.u_others t j tl jl))
      ∙ combined-inverse j jl)
      (agree-product p (T k e) 1 (V e (skip k j)) (c j) (J.s_corner ∙ sym (mod-eq_of_lt one)) (J.u_row j jl)
      ∙ ap (λ s. s % p) (let q : 1 * c j ≡ c j = omega arith in q))
      ∙ J.opposite j jl
      ∙ sym (ap (λ s. s % p) (identity-other k (skip k j) (λ q. skip-other k j (sym q))) ∙ zero-mod p)

  new-new : product (suc m) T V k k % p ≡ identity k k % p
  new-new = ap (λ s. s % p) (sum-skip m e (λ t. T k t * V t k) el)
      ∙ agree-add p (sum_below m (λ t. T k (skip e t) * V (skip e t) k)) 0 (T k e * V e k) 1
      (vanishes-sum p everything m (λ t. T k (skip e t) * V (skip e t) k)
      (λ t tl _. vanishes-mul p (T k (skip e t)) (V (skip e t) k) (J.u_column t tl)) ∙ sym (zero-mod p))
      (agree-product p (T k e) 1 (V e k) 1 (J.s_corner ∙ sym (mod-eq_of_lt one)) (J.u_corner ∙ sym (mod-eq_of_lt one)))
      ∙ ap (λ s. s % p) (sym (identity-same k))

  abbrev Right : ℕ → ℕ → Type 0
  Right i j = product (suc m) T V i j % p ≡ identity i j % p

  pub joined-inverse : IsInverse p (suc m) T V
  joined-inverse i j il jl = go (skip_cases m k i kl il) (skip_cases m k j kl jl)
    where
      go : (i ≡ k) ⊎ ((l : ℕ) × (l < m) × (skip k l ≡ i)) → (j ≡ k) ⊎ ((l : ℕ) × (l < m) × (skip k l ≡ j)) → Right i j
      go (inl f) (inl g) = subst (λ i. Right i j) (sym f) (subst (λ j. Right k j) (sym g) new-new)
      go (inl f) (inr (l, ll, g)) = subst (λ i. Right i j) (sym f) (subst (λ j. Right k j) g (new-others l ll))
      go (inr (h, hl, f)) (inl g) = subst (λ i. Right i j) f (subst (λ j. Right (skip k h) j) (sym g) (others-new h hl))
      go (inr (h, hl, f)) (inr (l, ll, g)) = subst (λ i. Right i j) f (subst (λ j. Right (skip k h) j) g (others-others h l hl ll))

  -- ---- S * a
  product-others : (i j : ℕ) → i < m → j < n → R (skip k i) j % p ≡ product (suc m) T b (skip k i) j % p
  product-others i j il jl = J.p_others i j il jl ∙ same i j il jl
      ∙ sym (ap (λ s. s % p) (sum-skip m e (λ t. T (skip k i) t * b t j) el)
      ∙ rest-zero p (sum_below m (λ t. T (skip k i) (skip e t) * b (skip e t) j)) (T (skip k i) e) (b e j) (J.s_column i il)
      ∙ agree-sum p everything m (λ t. T (skip k i) (skip e t) * b (skip e t) j) (λ t. S i t * a t j)
      (λ t tl _. agree-product p (T (skip k i) (skip e t)) (S i t) (b (skip e t) j) (a t j) (J.s_others i t il tl) (rows.others t j tl jl)))

  combined-product : (j : ℕ) → j < n → sum_below m (λ i. d i * P i j) % p ≡ sum_below m (λ t. combined t * a t j) % p
  combined-product j jl = agree-sum p everything m (λ i. d i * P i j) (λ i. d i * product m S a i j)
      (λ i il _. agree-mul p (d i) (P i j) (product m S a i j) (same i j il jl))
      ∙ ap (λ s. s % p) (product-assoc m m (λ _ i. d i) S a 0 j)

  product-new : (j : ℕ) → j < n → R k j % p ≡ product (suc m) T b k j % p
  product-new j jl = J.p_row j jl
      ∙ sym (ap (λ s. s % p) (sum-skip m e (λ t. T k t * b t j) el)
      ∙ agree-add p (sum_below m (λ t. T k (skip e t) * b (skip e t) j)) (sum_below m (λ i. d i * P i j)) (T k e * b e j) (x j)
      (agree-sum p everything m (λ t. T k (skip e t) * b (skip e t) j) (λ t. combined t * a t j)
      (λ t tl _. agree-product p (T k (skip e t)) (combined t) (b (skip e t) j) (a t j) (J.s_row t tl) (rows.others t j tl jl))
      ∙ sym (combined-product j jl))
      (agree-product p (T k e) 1 (b e j) (x j) (J.s_corner ∙ sym (mod-eq_of_lt one)) (rows.here j jl)
      ∙ ap (λ s. s % p) (let q : 1 * x j ≡ x j = omega arith in q)))

  pub joined-product : Agree p (suc m) n R (product (suc m) T b)
  joined-product i j il jl = go (skip_cases m k i kl il)
    where
      go : (i ≡ k) ⊎ ((l : ℕ) × (l < m) × (skip k l ≡ i)) → R i j % p ≡ product (suc m) T b i j % p
      go (inl f) = subst (λ i. R i j % p ≡ product (suc m) T b i j % p) (sym f) (product-new j jl)
      go (inr (l, ll, f)) = subst (λ i. R i j % p ≡ product (suc m) T b i j % p) f (product-others l j ll jl)
