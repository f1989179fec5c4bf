-- Row operations on S and their opposites on the transpose V of U keep S * U = 1.
use Rattle.std.proofs.Common.{◌≡◌, ℕ, ◌+◌, ◌*◌, ◌%◌, ◌<◌, ◌≢◌, ◌⊎◌, inl, inr, ap, sym, subst, ◌∙◌, arith}
use Rattle.std.proofs.Math.Nat.{mod-eq_of_lt}
use Rattle.residue_theory.specs.Sets.{everything}
use Rattle.residue_theory.specs.Sums.{sum_below}
use Rattle.residue_theory.specs.Residues.{IsPrime}
use Rattle.residue_theory.proofs.SumLaws.{sum_on-ext, nat_cases}
use Rattle.residue_theory.proofs.ResidueLaws.{agree-add, agree-mul, vanishes-mul}
use Rattle.linear_algebra.specs.Products.{product, identity, transposed, Agree, IsInverse}
use Rattle.linear_algebra.specs.RowOperations.{IsRowAdded, IsRowScaled}
use Rattle.linear_algebra_laws.proofs.Kernels.{row_added-other, row_added-changed, row_scaled-other, row_scaled-changed}
use Rattle.linear_algebra_laws.proofs.Entries.{identity-same, identity-other}

-- an entry of a product with the factors of its terms exchanged
commuted : (k : ℕ) (x y : ℕ → ℕ) → sum_below k (λ u. x u * y u) ≡ sum_below k (λ u. y u * x u)
commuted k x y = sum_on-ext everything k (λ u. x u * y u) (λ u. y u * x u) (λ u _ _. omega arith)

-- the same operation on entries that agree
pub agree-row_added : (p m n : ℕ) (a b c d : ℕ → ℕ → ℕ) (t s f : ℕ) → t < m → s < m → Agree p m n a b →
    IsRowAdded p m n a c t s f → IsRowAdded p m n b d t s f → Agree p m n c d
agree-row_added p m n a b c d t s f tl sl same left right i j il jl = elim (nat_cases i t) [
  | inl q ↦ subst (λ k. c k j % p ≡ d k j % p) (sym q)
      (left.changed j jl ∙ agree-add p (a t j) (b t j) (f * a s j) (f * b s j) (same t j tl jl) (agree-mul p f (a s j) (b s j) (same s j sl jl))
      ∙ sym (right.changed j jl))
  | inr ne ↦ left.others i j il jl ne ∙ same i j il jl ∙ sym (right.others i j il jl ne)
]

pub agree-row_scaled : (p m n : ℕ) (a b c d : ℕ → ℕ → ℕ) (t f : ℕ) → t < m → Agree p m n a b →
    IsRowScaled p m n a c t f → IsRowScaled p m n b d t f → Agree p m n c d
agree-row_scaled p m n a b c d t f tl same left right i j il jl = elim (nat_cases i t) [
  | inl q ↦ subst (λ k. c k j % p ≡ d k j % p) (sym q) (left.changed j jl ∙ agree-mul p f (a t j) (b t j) (same t j tl jl) ∙ sym (right.changed j jl))
  | inr ne ↦ left.others i j il jl ne ∙ same i j il jl ∙ sym (right.others i j il jl ne)
]

-- ---- inverses
-- f times row s of S added to row t, and g times row t of V added to row s, where f + g is zero
module _ (p m : ℕ) (S T V W : ℕ → ℕ → ℕ) (t s f g : ℕ) (inv : IsInverse p m S (transposed V))
    (left : IsRowAdded p m m S T t s f) (right : IsRowAdded p m m V W s t g)
    (apart : t ≢ s) (tl : t < m) (sl : s < m) (opposite : (f + g) % p ≡ 0) where
  -- the entry of S * V transposed
  abbrev dot : (ℕ → ℕ) → (ℕ → ℕ) → ℕ
  dot x y = sum_below m (λ u. x u * y u)

  right-other : (i j : ℕ) → i < m → j < m → j ≢ s → dot (S i) (W j) % p ≡ identity i j % p
  right-other i j il jl ne = row_added-other p m m V W s t g right everything (S i) j jl ne ∙ inv i j il jl

  right-changed : (i : ℕ) → i < m → dot (S i) (W s) % p ≡ (identity i s + g * identity i t) % p
  right-changed i il = row_added-changed p m m V W s t g right everything (S i)
      ∙ agree-add p (dot (S i) (V s)) (identity i s) (g * dot (S i) (V t)) (g * identity i t) (inv i s il sl)
      (agree-mul p g (dot (S i) (V t)) (identity i t) (inv i t il tl))

  left-other : (i j : ℕ) → i < m → i ≢ t → dot (T i) (W j) % p ≡ dot (S i) (W j) % p
  left-other i j il ne = ap (λ y. y % p) (commuted m (T i) (W j))
      ∙ row_added-other p m m S T t s f left everything (W j) i il ne ∙ ap (λ y. y % p) (commuted m (W j) (S i))

  left-changed : (j : ℕ) → dot (T t) (W j) % p ≡ (dot (S t) (W j) + f * dot (S s) (W j)) % p
  left-changed j = ap (λ y. y % p) (commuted m (T t) (W j)) ∙ row_added-changed p m m S T t s f left everything (W j)
      ∙ ap (λ y. (y + f * sum_below m (λ u. W j u * S s u)) % p) (commuted m (W j) (S t))
      ∙ ap (λ y. (dot (S t) (W j) + f * y) % p) (commuted m (W j) (S s))

  -- at row t and column s the two changes cancel
  corner : (x y z w : ℕ) → x ≡ 0 → y ≡ 1 → z ≡ 1 → w ≡ 0 → (x + g * y) + f * (z + g * w) ≡ f + g
  corner x y z w a b c d = ap (λ k. (k + g * y) + f * (z + g * w)) a ∙ ap (λ k. (0 + g * k) + f * (z + g * w)) b ∙ ap (λ k. (0 + g * 1) + f * (k + g * w)) c
      ∙ ap (λ k. (0 + g * 1) + f * (1 + g * k)) d ∙ omega arith

  pub inverse-row_added : IsInverse p m T (transposed W)
  inverse-row_added i j il jl = at (nat_cases i t) (nat_cases j s)
    where
      no_more : (x y k : ℕ) → y ≡ 0 → x + k * y ≡ x
      no_more x y k e = ap (λ z. x + k * z) e ∙ omega arith

      at : (i ≡ t) ⊎ (i ≢ t) → (j ≡ s) ⊎ (j ≢ s) → dot (T i) (W j) % p ≡ identity i j % p
      at (inr it) (inr js) = left-other i j il it ∙ right-other i j il jl js
      at (inr it) (inl q) = left-other i j il it ∙ subst (λ k. dot (S i) (W k) % p ≡ identity i k % p) (sym q)
          (right-changed i il ∙ ap (λ y. y % p) (no_more (identity i s) (identity i t) g (identity-other i t it)))
      at (inl q) (inr js) = subst (λ k. dot (T k) (W j) % p ≡ identity k j % p) (sym q)
          (left-changed j ∙ agree-add p (dot (S t) (W j)) (identity t j) (f * dot (S s) (W j)) (f * identity s j) (right-other t j tl jl js)
          (agree-mul p f (dot (S s) (W j)) (identity s j) (right-other s j sl jl js))
          ∙ ap (λ y. y % p) (no_more (identity t j) (identity s j) f (identity-other s j (λ e. js (sym e)))))
      at (inl q) (inl r) = subst (λ k. dot (T k) (W j) % p ≡ identity k j % p) (sym q) (subst (λ k. dot (T t) (W k) % p ≡ identity t k % p) (sym r)
          (left-changed s ∙ agree-add p (dot (S t) (W s)) (identity t s + g * identity t t) (f * dot (S s) (W s)) (f * (identity s s + g * identity s t))
          (right-changed t tl) (agree-mul p f (dot (S s) (W s)) (identity s s + g * identity s t) (right-changed s sl))
          ∙ ap (λ y. y % p) (corner (identity t s) (identity t t) (identity s s) (identity s t) (identity-other t s apart) (identity-same t) (identity-same s)
          (identity-other s t (λ e. apart (sym e))))
          ∙ opposite ∙ sym (ap (λ y. y % p) (identity-other t s apart) ∙ zero_mod)))
        where
          zero_mod : 0 % p ≡ 0
          zero_mod = sym (ap (λ y. y % p) (let e : 0 * (f + g) ≡ 0 = omega arith in e)) ∙ vanishes-mul p 0 (f + g) opposite

-- row t of S multiplied by f, and row t of V by its inverse g
module _ (p m : ℕ) (S T V W : ℕ → ℕ → ℕ) (t f g : ℕ) (inv : IsInverse p m S (transposed V))
    (left : IsRowScaled p m m S T t f) (right : IsRowScaled p m m V W t g)
    (prime : IsPrime p) (tl : t < m) (opposite : (f * g) % p ≡ 1) where
  scaled-dot : (i j : ℕ) → i < m → j < m → i ≢ t → sum_below m (λ u. T i u * W j u) % p ≡ sum_below m (λ u. S i u * W j u) % p
  scaled-dot i j il jl ne = ap (λ y. y % p) (commuted m (T i) (W j))
      ∙ row_scaled-other p m m S T t f left everything (W j) i il ne ∙ ap (λ y. y % p) (commuted m (W j) (S i))

  scaled-row : (j : ℕ) → sum_below m (λ u. T t u * W j u) % p ≡ f * sum_below m (λ u. S t u * W j u) % p
  scaled-row j = ap (λ y. y % p) (commuted m (T t) (W j)) ∙ row_scaled-changed p m m S T t f left everything (W j)
      ∙ ap (λ y. f * y % p) (commuted m (W j) (S t))

  right-entry : (i j : ℕ) → i < m → j < m → j ≢ t → sum_below m (λ u. S i u * W j u) % p ≡ identity i j % p
  right-entry i j il jl ne = row_scaled-other p m m V W t g right everything (S i) j jl ne ∙ inv i j il jl

  right-column : (i : ℕ) → i < m → sum_below m (λ u. S i u * W t u) % p ≡ g * identity i t % p
  right-column i il = row_scaled-changed p m m V W t g right everything (S i) ∙ agree-mul p g (sum_below m (λ u. S i u * V t u)) (identity i t) (inv i t il tl)

  pub inverse-row_scaled : IsInverse p m T (transposed W)
  inverse-row_scaled i j il jl = at (nat_cases i t) (nat_cases j t)
    where
      none : (x y k : ℕ) → x ≡ 0 → y ≡ 0 → k * x ≡ y
      none x y k e d = ap (λ z. k * z) e ∙ (let q : k * 0 ≡ 0 = omega arith in q) ∙ sym d

      at : (i ≡ t) ⊎ (i ≢ t) → (j ≡ t) ⊎ (j ≢ t) → sum_below m (λ u. T i u * W j u) % p ≡ identity i j % p
      at (inr it) (inr jt) = scaled-dot i j il jl it ∙ right-entry i j il jl jt
      at (inr it) (inl q) = scaled-dot i j il jl it ∙ subst (λ k. sum_below m (λ u. S i u * W k u) % p ≡ identity i k % p) (sym q)
          (right-column i il ∙ ap (λ y. y % p) (none (identity i t) (identity i t) g (identity-other i t it) (identity-other i t it)))
      at (inl q) (inr jt) = subst (λ k. sum_below m (λ u. T k u * W j u) % p ≡ identity k j % p) (sym q)
          (scaled-row j ∙ agree-mul p f (sum_below m (λ u. S t u * W j u)) (identity t j) (right-entry t j tl jl jt)
          ∙ ap (λ y. y % p) (none (identity t j) (identity t j) f (identity-other t j (λ e. jt (sym e))) (identity-other t j (λ e. jt (sym e)))))
      at (inl q) (inl r) = subst (λ k. sum_below m (λ u. T k u * W j u) % p ≡ identity k j % p) (sym q)
          (subst (λ k. sum_below m (λ u. T t u * W k u) % p ≡ identity t k % p) (sym r)
          (scaled-row t ∙ agree-mul p f (sum_below m (λ u. S t u * W t u)) (g * identity t t) (right-column t tl)
          ∙ ap (λ y. (f * (g * y)) % p) (identity-same t) ∙ ap (λ y. y % p) (let e : f * (g * 1) ≡ f * g = omega arith in e) ∙ opposite
          ∙ sym (ap (λ y. y % p) (identity-same t) ∙ mod-eq_of_lt prime.above_one)))
