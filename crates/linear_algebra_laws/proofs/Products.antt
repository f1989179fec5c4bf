-- Products with invertible matrices keep which columns are independent, and so the rank.
use Rattle.std.proofs.Common.{◌≡◌, ℕ, zero, suc, ◌+◌, ◌-◌, ◌*◌, ◌%◌, ◌<◌, ◌≢◌, Bool, inl, inr, refl, ap, sym, ◌∙◌, arith}
use Rattle.residue_theory.specs.Sets.{without, everything}
use Rattle.std.proofs.Math.Nat.{mod_self}
use Rattle.std.proofs.lemmas.Bool.Decides.{nat_tests}
use Rattle.residue_theory.specs.Sums.{sum_on, sum_below}
use Rattle.residue_theory.specs.Residues.{IsPrime}
use Rattle.linear_algebra.specs.Columns.{IsIndependent, IsRank, Combines}
use Rattle.linear_algebra.specs.Products.{product, identity, IsInverse, Agree}
use Rattle.residue_theory.proofs.SumLaws.{sum_on-add, sum_on-mul, sum_on-ext, sum_on-swap, sum_on-without, sum_on-none, nat_cases, without-member}
use Rattle.residue_theory.proofs.ResidueLaws.{vanishes-mul, vanishes-sum, vanishes_by, vanishes-rest, agree-add, agree-mul}
use Rattle.residue_theory.proofs.ResidueLaws.{agree-sum, agree_of, vanishes_factor, lacks}
use Rattle.residue_theory.proofs.CountLaws.{size-everything}
use Rattle.linear_algebra.specs.Kernels.{SameKernel}
use Rattle.linear_algebra.specs.Parts.{with_column}
use Rattle.linear_algebra_laws.proofs.Elimination.{Dichotomy, dichotomy}
use Rattle.linear_algebra_laws.proofs.Entries.{identity-same, identity-other, with_column-first, with_column-last}

zero_not_prime : IsPrime 0 → ⊥
zero_not_prime prime = absurd (no_such prime.above_one)
  where
    no_such : 1 < 0 → ⊥
    no_such h = omega arith

-- what the columns of X combine to in a product
pub sum-product : (k n : ℕ) (S a : ℕ → ℕ → ℕ) (X : ℕ → Bool) (c : ℕ → ℕ) (i : ℕ) →
    sum_on X n (λ j. c j * product k S a i j) ≡ sum_below k (λ t. S i t * sum_on X n (λ j. c j * a t j))
sum-product k n S a X c i =
    sum_on-ext X n (λ j. c j * product k S a i j) (λ j. sum_below k (λ t. c j * (S i t * a t j)))
    (λ j _ _. sym (sum_on-mul everything k (c j) (λ t. S i t * a t j)))
    ∙ sum_on-swap X everything n k (λ t j. c j * (S i t * a t j))
    ∙ sum_on-ext everything k (λ t. sum_on X n (λ j. c j * (S i t * a t j))) (λ t. S i t * sum_on X n (λ j. c j * a t j)) (λ t _ _. one_row t)
  where
    one_row : (t : ℕ) → sum_on X n (λ j. c j * (S i t * a t j)) ≡ S i t * sum_on X n (λ j. c j * a t j)
    one_row t = sum_on-ext X n (λ j. c j * (S i t * a t j)) (λ j. S i t * (c j * a t j)) (λ j _ _. omega arith) ∙ sum_on-mul X n (S i t) (λ j. c j * a t j)

pub product-assoc : (k l : ℕ) (U S a : ℕ → ℕ → ℕ) (i j : ℕ) → product k U (product l S a) i j ≡ product l (product k U S) a i j
product-assoc k l U S a i j =
    sum_on-ext everything k (λ t. U i t * product l S a t j) (λ t. sum_below l (λ s. U i t * (S t s * a s j)))
    (λ t _ _. sym (sum_on-mul everything l (U i t) (λ s. S t s * a s j)))
    ∙ sum_on-swap everything everything k l (λ s t. U i t * (S t s * a s j))
    ∙ sum_on-ext everything l (λ s. sum_below k (λ t. U i t * (S t s * a s j))) (λ s. product k U S i s * a s j) (λ s _ _. one s)
  where
    one : (s : ℕ) → sum_below k (λ t. U i t * (S t s * a s j)) ≡ product k U S i s * a s j
    one s = sum_on-ext everything k (λ t. U i t * (S t s * a s j)) (λ t. a s j * (U i t * S t s)) (λ t _ _. omega arith)
        ∙ sum_on-mul everything k (a s j) (λ t. U i t * S t s) ∙ omega arith

-- a product with the identity matrix
pub sum-identity : (k i : ℕ) (f : ℕ → ℕ) → i < k → sum_below k (λ t. identity i t * f t) ≡ f i
sum-identity k i f l = sum_on-without everything k i (λ t. identity i t * f t) l refl ∙ ap (λ s. s + identity i i * f i) rest
    ∙ ap (λ s. 0 + s * f i) (identity-same i) ∙ omega arith
  where
    rest : sum_on (without everything i) k (λ t. identity i t * f t) ≡ 0
    rest = sum_on-ext (without everything i) k (λ t. identity i t * f t) (λ _. 0)
        (λ t _ h. ap (λ s. s * f t) (identity-other i t (λ q. (without-member everything i t h).1 (sym q)))
        ∙ omega arith) ∙ sum_on-none (without everything i) k

pub sum-identity_right : (k j : ℕ) (f : ℕ → ℕ) → j < k → sum_below k (λ t. f t * identity t j) ≡ f j
sum-identity_right k j f l = sum_on-ext everything k (λ t. f t * identity t j) (λ t. identity j t * f t)
    (λ t _ _. grind (arith, nat_tests)) ∙ sum-identity k j f l

-- entries that agree make the same columns independent
pub independent-agree : (p m n : ℕ) (a b : ℕ → ℕ → ℕ) (X : ℕ → Bool) → Agree p m n a b → IsIndependent p a m n X → IsIndependent p b m n X
independent-agree p m n a b X same ind c s = ind c
    (λ i il. agree-sum p X n (λ j. c j * a i j) (λ j. c j * b i j) (λ j jl _. agree-mul p (c j) (a i j) (b i j) (same i j il jl)) ∙ s i il)

-- columns that are independent in a product are so in its right factor
pub independent_of-product : (p l m n : ℕ) (S a : ℕ → ℕ → ℕ) (X : ℕ → Bool) → IsIndependent p (product m S a) l n X → IsIndependent p a m n X
independent_of-product p l m n S a X ind c s = ind c (λ i _.
    vanishes_by p _ _ (sum-product m n S a X c i)
    (vanishes-sum p everything m (λ t. S i t * sum_on X n (λ j. c j * a t j)) (λ t tl _. vanishes-mul p (S i t) (sum_on X n (λ j. c j * a t j)) (s t tl))))

-- with an inverse on the left, a product keeps independence
pub product-independent : (p m n : ℕ) (U S a : ℕ → ℕ → ℕ) (X : ℕ → Bool) → IsInverse p m U S → IsIndependent p a m n X → IsIndependent p (product m S a) m n X
product-independent p m n U S a X inv ind =
    independent_of-product p m m n U (product m S a) X
    (independent-agree p m n a (product m U (product m S a)) X agree ind)
  where
    agree : Agree p m n a (product m U (product m S a))
    agree i j il jl = sym (ap (λ s. s % p) (product-assoc m m U S a i j)
        ∙ agree-sum p everything m (λ t. product m U S i t * a t j) (λ t. identity i t * a t j)
        (λ t tl _. ap (λ s. s % p) (omega arith) ∙ agree-mul p (a t j) (product m U S i t) (identity i t) (inv i t il tl) ∙ ap (λ s. s % p) (omega arith))
        ∙ ap (λ s. s % p) (sum-identity m i (λ t. a t j) il))

-- where S * U is the identity, only zero is sent to zero by S
pub kernel-zero : (p : ℕ) → IsPrime p → (m : ℕ) (S U : ℕ → ℕ → ℕ) → IsInverse p m S U → (x : ℕ → ℕ) →
    ((i : ℕ) → i < m → sum_below m (λ t. S i t * x t) % p ≡ 0) → (i : ℕ) → i < m → x i % p ≡ 0
kernel-zero p prime m S U inv x zeros = go (dichotomy p prime everything (suc m) m (with_column m U x) everything)
  where
    go : Dichotomy p (with_column m U x) everything m everything (suc m) → (i : ℕ) → i < m → x i % p ≡ 0
    go (inl (_, le)) i l = absurd (omega (arith, size-everything m, size-everything (suc m)))
    go (inr s) i l = vanishes_factor p prime (s.at m) (x i) at_m (vanishes-rest p (sum_below m (λ j. s.at j * U i j)) (s.at m * x i) (row i l)
        (vanishes-sum p everything m (λ j. s.at j * U i j)
        (λ j jl _. vanishes_by p _ (U i j * s.at j) (omega arith)
        (vanishes-mul p (U i j) (s.at j) (at_zero j jl)))))
      where
        row : (t : ℕ) → t < m → (sum_below m (λ j. s.at j * U t j) + s.at m * x t) % p ≡ 0
        row t tl = vanishes_by p _ (sum_below m (λ j. s.at j * with_column m U x t j) + s.at m * with_column m U x t m)
            (omega (
              arith,
              sum_on-ext everything m (λ j. s.at j * U t j) (λ j. s.at j * with_column m U x t j)
                  (λ j jl _. ap (λ y. s.at j * y) (sym (with_column-first m U x t j jl))),
              ap (λ y. s.at m * y) (with_column-last m U x t),
            ))
            (s.solves t tl refl)

        through : (t : ℕ) → sum_below m (λ k. S t k * (sum_below m (λ j. s.at j * U k j) + s.at m * x k)) ≡
            sum_below m (λ j. s.at j * product m S U t j) + s.at m * sum_below m (λ k. S t k * x k)
        through t = sum_on-ext everything m (λ k. S t k * (sum_below m (λ j. s.at j * U k j) + s.at m * x k))
            (λ k. S t k * sum_below m (λ j. s.at j * U k j) + s.at m * (S t k * x k)) (λ k _ _. omega arith)
            ∙ sum_on-add everything m (λ k. S t k * sum_below m (λ j. s.at j * U k j)) (λ k. s.at m * (S t k * x k))
            ∙ omega (arith, sum-product m m S U everything s.at t, sum_on-mul everything m (s.at m) (λ k. S t k * x k))

        at_zero : (t : ℕ) → t < m → s.at t % p ≡ 0
        at_zero t tl = sym (ap (λ y. y % p) (sum-identity m t s.at tl))
            ∙ sym (agree-sum p everything m (λ j. s.at j * product m S U t j) (λ j. identity t j * s.at j)
            (λ j jl _. agree-mul p (s.at j) (product m S U t j) (identity t j) (inv t j tl jl) ∙ ap (λ y. y % p) (omega arith)))
            ∙ vanishes-rest p (s.at m * sum_below m (λ k. S t k * x k)) (sum_below m (λ j. s.at j * product m S U t j))
            (vanishes_by p _ (sum_below m (λ k. S t k * (sum_below m (λ j. s.at j * U k j) + s.at m * x k))) (omega (arith, through t))
            (vanishes-sum p everything m (λ k. S t k * (sum_below m (λ j. s.at j * U k j) + s.at m * x k))
            (λ k kl _. vanishes-mul p (S t k) (sum_below m (λ j. s.at j * U k j) + s.at m * x k) (row k kl))))
            (vanishes-mul p (s.at m) (sum_below m (λ k. S t k * x k)) (zeros t tl))

        at_m : s.at m % p ≢ 0
        at_m z = elim (nat_cases s.place m) [
          | inl q ↦ s.non_zero (ap (λ k. s.at k % p) q ∙ z)
          | inr ne ↦ s.non_zero (at_zero s.place (let b : s.place < suc m = s.below in omega arith))
        ]

-- an inverse on the right is one on the left
pub inverse-swap : (p : ℕ) → IsPrime p → (m : ℕ) (S U : ℕ → ℕ → ℕ) → IsInverse p m S U → IsInverse p m U S
inverse-swap zero prime m S U inv i j il jl = absurd (zero_not_prime prime)
inverse-swap (suc k) prime m S U inv i j il jl =
    agree_of (suc k) (product m U S i j) (k * identity i j) (identity i j)
    (kernel-zero (suc k) prime m S U inv (λ t. product m U S t j + k * identity t j) sent i il)
    (vanishes_by (suc k) _ (identity i j * suc k) (omega arith) (vanishes-mul (suc k) (identity i j) (suc k) (mod_self (suc k))))
  where
    parts : (t : ℕ) → sum_below m (λ s. S t s * (product m U S s j + k * identity s j)) ≡ product m (product m S U) S t j + k * S t j
    parts t = sum_on-ext everything m (λ s. S t s * (product m U S s j + k * identity s j))
        (λ s. S t s * product m U S s j + k * (S t s * identity s j)) (λ s _ _. omega arith)
        ∙ sum_on-add everything m (λ s. S t s * product m U S s j) (λ s. k * (S t s * identity s j))
        ∙ omega (
          arith,
          product-assoc m m S U S t j,
          sum_on-mul everything m k (λ s. S t s * identity s j),
          ap (λ y. k * y) (sum-identity_right m j (λ s. S t s) jl),
        )

    back : (t : ℕ) → t < m → product m (product m S U) S t j % suc k ≡ S t j % suc k
    back t tl = agree-sum (suc k) everything m (λ s. product m S U t s * S s j) (λ s. identity t s * S s j)
        (λ s sl _. ap (λ y. y % suc k) (omega arith) ∙ agree-mul (suc k) (S s j) (product m S U t s) (identity t s) (inv t s tl sl)
        ∙ ap (λ y. y % suc k) (omega arith))
        ∙ ap (λ y. y % suc k) (sum-identity m t (λ s. S s j) tl)

    sent : (t : ℕ) → t < m → sum_below m (λ s. S t s * (product m U S s j + k * identity s j)) % suc k ≡ 0
    sent t tl = ap (λ y. y % suc k) (parts t) ∙ agree-add (suc k) (product m (product m S U) S t j) (S t j) (k * S t j) (k * S t j) (back t tl) refl
        ∙ vanishes_by (suc k) _ (S t j * suc k) (omega arith) (vanishes-mul (suc k) (S t j) (suc k) (mod_self (suc k)))

-- an invertible product keeps the rank of every set of columns
pub rank_of-product : (p : ℕ) → IsPrime p → (m n : ℕ) (S U a P : ℕ → ℕ → ℕ) (X : ℕ → Bool) (r : ℕ) → IsInverse p m S U → Agree p m n P (product m S a) →
    IsRank p P m n X r → IsRank p a m n X r
rank_of-product p prime m n S U a P X r inv same R = record {
  reached = ((R.reached).0, (R.reached).1, down (R.reached).0 (R.reached).2, (R.reached).3);
  greatest = λ Y within ind. R.greatest Y within (up Y ind);
}
  where
    down : (Y : ℕ → Bool) → IsIndependent p P m n Y → IsIndependent p a m n Y
    down Y ind = independent_of-product p m m n S a Y (independent-agree p m n P (product m S a) Y same ind)

    up : (Y : ℕ → Bool) → IsIndependent p a m n Y → IsIndependent p P m n Y
    up Y ind = independent-agree p m n (product m S a) P Y (λ i j il jl. sym (same i j il jl))
        (product-independent p m n U S a Y (inverse-swap p prime m S U inv) ind)

-- a product with an invertible matrix keeps the kernel
pub product-kernel : (p : ℕ) → IsPrime p → (m n : ℕ) (S U a P : ℕ → ℕ → ℕ) → IsInverse p m S U → Agree p m n P (product m S a) → SameKernel p m n a P
product-kernel p prime m n S U a P inv same = record {
  forward = λ X c z i il. through X c i il
      ∙ vanishes-sum p everything m (λ t. S i t * sum_on X n (λ j. c j * a t j)) (λ t tl _. vanishes-mul p (S i t) (sum_on X n (λ j. c j * a t j)) (z t tl));
  back = λ X c z. kernel-zero p prime m S U inv (λ t. sum_on X n (λ j. c j * a t j)) (λ i il. sym (through X c i il) ∙ z i il);
}
  where
    through : (X : ℕ → Bool) (c : ℕ → ℕ) (i : ℕ) → i < m → sum_on X n (λ j. c j * P i j) % p ≡ sum_below m (λ t. S i t * sum_on X n (λ j. c j * a t j)) % p
    through X c i il = agree-sum p X n (λ j. c j * P i j) (λ j. c j * product m S a i j)
        (λ j jl _. agree-mul p (c j) (P i j) (product m S a i j) (same i j il jl))
        ∙ ap (λ s. s % p) (sum-product m n S a X c i)

-- ---- combinations in a product
-- what the columns of X combine to, they combine to in P = S * a, with S applied to it
pub combines-product : (p m n : ℕ) (S a P : ℕ → ℕ → ℕ) (X : ℕ → Bool) (x : ℕ → ℕ) → Agree p m n P (product m S a) → Combines p a m n X x →
    Combines p P m n X (λ i. sum_below m (λ t. S i t * x t))
combines-product p m n S a P X x same (c, s) = (
  c,
  λ i il.
      agree-sum p X n (λ j. c j * P i j) (λ j. c j * product m S a i j) (λ j jl _. agree-mul p (c j) (P i j) (product m S a i j) (same i j il jl))
      ∙ ap (λ y. y % p) (sum-product m n S a X c i)
      ∙ agree-sum p everything m (λ t. S i t * sum_on X n (λ j. c j * a t j)) (λ t. S i t * x t)
      (λ t tl _. agree-mul p (S i t) (sum_on X n (λ j. c j * a t j)) (x t) (s t tl)),
)

-- and back, for an invertible S
pub combines_of-product : (p : ℕ) → IsPrime p → (m n : ℕ) (S U a P : ℕ → ℕ → ℕ) (X : ℕ → Bool) (x : ℕ → ℕ) → IsInverse p m S U → Agree p m n P (product m S a) →
    Combines p P m n X (λ i. sum_below m (λ t. S i t * x t)) → Combines p a m n X x
combines_of-product p prime m n S U a P X x inv same (c, s) = (
  c,
  λ i il.
      agree_of p (sum_on X n (λ j. c j * a i j)) ((p - 1) * x i) (x i)
      (kernel-zero p prime m S U inv (λ t. sum_on X n (λ j. c j * a t j) + (p - 1) * x t) sent i il) (lacks p prime (x i)),
)
  where
    -- S sends the difference to zero
    parts : (i : ℕ) → sum_below m (λ t. S i t * (sum_on X n (λ j. c j * a t j) + (p - 1) * x t)) ≡
        sum_on X n (λ j. c j * product m S a i j) + (p - 1) * sum_below m (λ t. S i t * x t)
    parts i = sum_on-ext everything m (λ t. S i t * (sum_on X n (λ j. c j * a t j) + (p - 1) * x t))
        (λ t. S i t * sum_on X n (λ j. c j * a t j) + (p - 1) * (S i t * x t)) (λ t _ _. spread (S i t) (sum_on X n (λ j. c j * a t j)) (p - 1) (x t))
        ∙ sum_on-add everything m (λ t. S i t * sum_on X n (λ j. c j * a t j)) (λ t. (p - 1) * (S i t * x t))
        ∙ ap (λ y. y + sum_below m (λ t. (p - 1) * (S i t * x t))) (sym (sum-product m n S a X c i))
        ∙ ap (λ y. sum_on X n (λ j. c j * product m S a i j) + y) (sum_on-mul everything m (p - 1) (λ t. S i t * x t))
      where
        spread : (u y k z : ℕ) → u * (y + k * z) ≡ u * y + k * (u * z)
        spread u y k z = omega arith

    at_row : (i : ℕ) → i < m → sum_on X n (λ j. c j * product m S a i j) % p ≡ sum_below m (λ t. S i t * x t) % p
    at_row i il = agree-sum p X n (λ j. c j * product m S a i j) (λ j. c j * P i j)
        (λ j jl _. agree-mul p (c j) (product m S a i j) (P i j) (sym (same i j il jl))) ∙ s i il

    sent : (i : ℕ) → i < m → sum_below m (λ t. S i t * (sum_on X n (λ j. c j * a t j) + (p - 1) * x t)) % p ≡ 0
    sent i il = ap (λ y. y % p) (parts i)
        ∙ agree-add p (sum_on X n (λ j. c j * product m S a i j)) (sum_below m (λ t. S i t * x t)) ((p - 1) * sum_below m (λ t. S i t * x t))
        ((p - 1) * sum_below m (λ t. S i t * x t)) (at_row i il) refl
        ∙ lacks p prime (sum_below m (λ t. S i t * x t))
