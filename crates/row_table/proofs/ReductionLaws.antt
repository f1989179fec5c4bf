-- Reductions: the inverse that they lead to, and that they are pivots.
use Rattle.std.proofs.Common.{◌≡◌, ℕ, ◌+◌, ◌*◌, ◌%◌, ◌-◌, ◌<◌, ◌≢◌, Bool, cond, eqb, inl, inr, refl, ap, sym, subst, ◌∙◌, arith}
use Rattle.std.proofs.Math.Nat.{zero-mod, mod-eq_of_lt}
use Rattle.std.proofs.lemmas.Bool.Decides.{nat_tests}
use Rattle.residue_theory.specs.Residues.{IsPrime}
use Rattle.residue_theory.specs.Sets.{everything, without}
use Rattle.residue_theory.specs.Sums.{sum_on, sum_below}
use Rattle.residue_theory.proofs.SumLaws.{nat_cases, sum_on-ext, sum_on-add, sum_on-mul, sum_on-without, without-member}
use Rattle.residue_theory.proofs.ResidueLaws.{vanishes-mul, vanishes-add, vanishes-rest, vanishes_factor, agree-add, agree-mul, agree-sum, agree_of, lacks}
use Rattle.linear_algebra.specs.Kernels.{SameKernel}
use Rattle.linear_algebra.specs.Products.{product, identity, Agree, IsInverse}
use Rattle.linear_algebra.specs.RowOperations.{IsPivoted}
use Rattle.linear_algebra_laws.proofs.Products.{product-assoc, sum-identity, inverse-swap}
use Rattle.row_table.specs.Reductions.{IsReduced, with_column_as, ZeroRowsStay}

-- b without its row r
abbrev but_row : (ℕ → ℕ → ℕ) → ℕ → ℕ → ℕ → ℕ
but_row b r t j = cond (eqb t r) 0 (b t j)

but_row-same : (b : ℕ → ℕ → ℕ) (r j : ℕ) → but_row b r r j ≡ 0
but_row-same b r j = grind (arith, nat_tests)

but_row-other : (b : ℕ → ℕ → ℕ) (r t j : ℕ) → t ≢ r → but_row b r t j ≡ b t j
but_row-other b r t j ne = grind (arith, nat_tests)

column-same : (a : ℕ → ℕ → ℕ) (r i : ℕ) (x : ℕ → ℕ) → with_column_as a r x i r ≡ x i
column-same a r i x = grind (arith, nat_tests)

column-other : (a : ℕ → ℕ → ℕ) (r i t : ℕ) (x : ℕ → ℕ) → t ≢ r → with_column_as a r x i t ≡ a i t
column-other a r i t x ne = grind (arith, nat_tests)

-- a product with another column in the left factor
product-column : (m : ℕ) (U b : ℕ → ℕ → ℕ) (r : ℕ) (x : ℕ → ℕ) (i j : ℕ) → r < m →
    product m (with_column_as U r x) b i j ≡ sum_below m (λ t. U i t * but_row b r t j) + x i * b r j
product-column m U b r x i j rl =
    sum_on-without everything m r (λ t. with_column_as U r x i t * b t j) rl refl
    ∙ ap (λ y. sum_on (without everything r) m (λ t. with_column_as U r x i t * b t j) + y * b r j)
    (column-same U r i x)
    ∙ ap (λ y. y + x i * b r j) (rest ∙ sym (sum_on-without everything m r (λ t. U i t * but_row b r t j) rl refl
    ∙ none))
  where
    rest : sum_on (without everything r) m (λ t. with_column_as U r x i t * b t j)
        ≡ sum_on (without everything r) m (λ t. U i t * but_row b r t j)
    rest = sum_on-ext (without everything r) m (λ t. with_column_as U r x i t * b t j) (λ t. U i t * but_row b r t j)
        (λ t _ h. let ne : t ≢ r = (without-member everything r t h).1 in
        ap (λ y. y * b t j) (column-other U r i t x ne) ∙ ap (λ y. U i t * y) (sym (but_row-other b r t j ne)))

    none : sum_on (without everything r) m (λ t. U i t * but_row b r t j) + U i r * but_row b r r j
        ≡ sum_on (without everything r) m (λ t. U i t * but_row b r t j)
    none = ap (λ y. sum_on (without everything r) m (λ t. U i t * but_row b r t j) + U i r * y) (but_row-same b r j)
        ∙ omega arith

module _ (p m n : ℕ) (a b : ℕ → ℕ → ℕ) (r : ℕ) (k : ℕ → ℕ) (rl : r < m) (reduced : IsReduced p m n a b r k) where
  spread : (i j : ℕ) → i < m → j < n → a i j % p ≡ (but_row b r i j + k i * b r j) % p
  spread i j il jl = elim (nat_cases i r) [
    | inl q ↦ subst (λ t. a t j % p ≡ (but_row b r t j + k t * b r j) % p) (sym q)
        (reduced.here j jl ∙ ap (λ y. y % p) (let e : k r * b r j ≡ 0 + k r * b r j = omega arith in e)
        ∙ ap (λ y. (y + k r * b r j) % p) (sym (but_row-same b r j)))
    | inr ne ↦ reduced.others i j il jl ne ∙ ap (λ y. (y + k i * b r j) % p) (sym (but_row-other b r i j ne))
  ]

  -- what a gives on the right of U, b gives where column r of U is U * k
  pub reduced-product : (U : ℕ → ℕ → ℕ) (x : ℕ → ℕ) →
      ((i : ℕ) → i < m → x i % p ≡ sum_below m (λ t. U i t * k t) % p) →
      Agree p m n (product m (with_column_as U r x) b) (product m U a)
  reduced-product U x is i j il jl =
      ap (λ y. y % p) (product-column m U b r x i j rl)
      ∙ agree-add p _ _ (x i * b r j) (sum_below m (λ t. U i t * k t) * b r j) refl
      (ap (λ y. y % p) (omega arith) ∙ agree-mul p (b r j) (x i) (sum_below m (λ t. U i t * k t)) (is i il)
      ∙ ap (λ y. y % p) (omega arith))
      ∙ ap (λ y. y % p) (sym apart)
      ∙ sym (agree-sum p everything m (λ t. U i t * a t j) (λ t. U i t * (but_row b r t j + k t * b r j))
      (λ t tl _. agree-mul p (U i t) (a t j) (but_row b r t j + k t * b r j) (spread t j tl jl)))
    where
      apart : sum_below m (λ t. U i t * (but_row b r t j + k t * b r j))
          ≡ sum_below m (λ t. U i t * but_row b r t j) + sum_below m (λ t. U i t * k t) * b r j
      apart = sum_on-ext everything m (λ t. U i t * (but_row b r t j + k t * b r j))
          (λ t. U i t * but_row b r t j + b r j * (U i t * k t)) (λ t _ _. omega arith)
          ∙ sum_on-add everything m (λ t. U i t * but_row b r t j) (λ t. b r j * (U i t * k t))
          ∙ ap (λ y. sum_below m (λ t. U i t * but_row b r t j) + y)
          (sum_on-mul everything m (b r j) (λ t. U i t * k t) ∙ omega arith)

-- an inverse on the left takes a factor away
undone : (p m n : ℕ) (U S a : ℕ → ℕ → ℕ) → IsInverse p m U S → Agree p m n (product m U (product m S a)) a
undone p m n U S a inv i j il jl =
    ap (λ y. y % p) (product-assoc m m U S a i j)
    ∙ agree-sum p everything m (λ t. product m U S i t * a t j) (λ t. identity i t * a t j)
    (λ t tl _. ap (λ y. y % p) (omega arith) ∙ agree-mul p (a t j) (product m U S i t) (identity i t)
    (inv i t il tl) ∙ ap (λ y. y % p) (omega arith))
    ∙ ap (λ y. y % p) (sum-identity m i (λ t. a t j) il)

-- a product of matrices that agree
product-agree : (p m n : ℕ) (U a b : ℕ → ℕ → ℕ) → Agree p m n a b → Agree p m n (product m U a) (product m U b)
product-agree p m n U a b same i j il jl = agree-sum p everything m (λ t. U i t * a t j) (λ t. U i t * b t j)
    (λ t tl _. agree-mul p (U i t) (a t j) (b t j) (same t j tl jl))

pub first-inverse : (p : ℕ) → IsPrime p → (m n : ℕ) (q S U P S' P' : ℕ → ℕ → ℕ) (r v : ℕ) → r < m → v < n →
    Agree p m n P (product m S q) → IsInverse p m S U →
    IsReduced p m n P P' r (λ i. P i v) → IsReduced p m m S S' r (λ i. P i v) →
    IsInverse p m S' (with_column_as U r (λ i. q i v)) × Agree p m n P' (product m S' q)
first-inverse p prime m n q S U P S' P' r v rl vl same inv on_p on_s = (
  inverse,
  λ i j il jl.
      sym (undone p m n S' W P' inverse i j il jl)
      ∙ product-agree p m n S' (product m W P') q (λ t u tl ul. reduced-product p m n P P' r (λ i. P i v) rl on_p
      U (λ i. q i v) column t u tl ul ∙ back t u tl ul) i j il jl,
)
  where
    W : ℕ → ℕ → ℕ
    W = with_column_as U r (λ i. q i v)

    swapped : IsInverse p m U S
    swapped = inverse-swap p prime m S U inv

    back : Agree p m n (product m U P) q
    back i j il jl = product-agree p m n U P (product m S q) same i j il jl ∙ undone p m n U S q swapped i j il jl

    column : (i : ℕ) → i < m → q i v % p ≡ sum_below m (λ t. U i t * P t v) % p
    column i il = sym (back i v il vl)

    inverse : IsInverse p m S' W
    inverse = inverse-swap p prime m W S' (λ i j il jl. reduced-product p m m S S' r (λ i. P i v) rl on_s U
        (λ i. q i v) column i j il jl ∙ swapped i j il jl)

-- ---- pivots
module _ (p : ℕ) (prime : IsPrime p) (m n : ℕ) (a b : ℕ → ℕ → ℕ) (r : ℕ) (k : ℕ → ℕ) (rl : r < m)
    (non_zero : k r % p ≢ 0) (reduced : IsReduced p m n a b r k) where
  -- what the columns of a combine to, those of b do
  combined : (X : ℕ → Bool) (c : ℕ → ℕ) (i : ℕ) → i < m → sum_on X n (λ j. c j * a i j) % p
      ≡ (sum_on X n (λ j. c j * but_row b r i j) + k i * sum_on X n (λ j. c j * b r j)) % p
  combined X c i il =
      agree-sum p X n (λ j. c j * a i j) (λ j. c j * (but_row b r i j + k i * b r j))
      (λ j jl _. agree-mul p (c j) (a i j) (but_row b r i j + k i * b r j)
      (spread p m n a b r k rl reduced i j il jl))
      ∙ ap (λ y. y % p) (
      sum_on-ext X n (λ j. c j * (but_row b r i j + k i * b r j)) (λ j. c j * but_row b r i j + k i * (c j * b r j))
      (λ j _ _. omega arith)
      ∙ sum_on-add X n (λ j. c j * but_row b r i j) (λ j. k i * (c j * b r j))
      ∙ ap (λ y. sum_on X n (λ j. c j * but_row b r i j) + y) (sum_on-mul X n (k i) (λ j. c j * b r j)))

  here_is : (X : ℕ → Bool) (c : ℕ → ℕ) → sum_on X n (λ j. c j * a r j) % p ≡ k r * sum_on X n (λ j. c j * b r j) % p
  here_is X c =
      agree-sum p X n (λ j. c j * a r j) (λ j. k r * (c j * b r j)) (λ j jl _. agree-mul p (c j) (a r j) (k r * b r j)
      (reduced.here j jl) ∙ ap (λ y. y % p) (omega arith))
      ∙ ap (λ y. y % p) (sum_on-mul X n (k r) (λ j. c j * b r j))

  other_is : (X : ℕ → Bool) (c : ℕ → ℕ) (i : ℕ) → i < m → i ≢ r → sum_on X n (λ j. c j * a i j) % p
      ≡ (sum_on X n (λ j. c j * b i j) + k i * sum_on X n (λ j. c j * b r j)) % p
  other_is X c i il ne = combined X c i il
      ∙ ap (λ y. (y + k i * sum_on X n (λ j. c j * b r j)) % p) (sum_on-ext X n (λ j. c j * but_row b r i j)
      (λ j. c j * b i j) (λ j _ _. ap (λ y. c j * y) (but_row-other b r i j ne)))

  kernel : SameKernel p m n a b
  kernel = record {
    forward = λ X c z i il.
        let at_r : sum_on X n (λ j. c j * b r j) % p ≡ 0 =
        vanishes_factor p prime (k r) (sum_on X n (λ j. c j * b r j)) non_zero (sym (here_is X c) ∙ z r rl) in
        elim (nat_cases i r) [
          | inl q ↦ subst (λ t. sum_on X n (λ j. c j * b t j) % p ≡ 0) (sym q) at_r
          | inr ne ↦ vanishes-rest p (k i * sum_on X n (λ j. c j * b r j)) (sum_on X n (λ j. c j * b i j))
              (ap (λ y. y % p) (omega arith) ∙ sym (other_is X c i il ne)
              ∙ z i il) (vanishes-mul p (k i) (sum_on X n (λ j. c j * b r j)) at_r)
        ];
    back = λ X c z i il. elim (nat_cases i r) [
      | inl q ↦ subst (λ t. sum_on X n (λ j. c j * a t j) % p ≡ 0) (sym q) (here_is X c
          ∙ vanishes-mul p (k r) (sum_on X n (λ j. c j * b r j)) (z r rl))
      | inr ne ↦ other_is X c i il ne
          ∙ vanishes-add p (sum_on X n (λ j. c j * b i j)) (k i * sum_on X n (λ j. c j * b r j)) (z i il)
          (vanishes-mul p (k i) (sum_on X n (λ j. c j * b r j)) (z r rl))
    ];
  }

  pub keeps : (j : ℕ) → j < n → a r j % p ≡ 0 → (i : ℕ) → i < m → b i j % p ≡ a i j % p
  keeps j jl z i il = elim (nat_cases i r) [
    | inl q ↦ subst (λ t. b t j % p ≡ a t j % p) (sym q) (zero ∙ sym z)
    | inr ne ↦ sym (reduced.others i j il jl ne
        ∙ agree-add p (b i j) (b i j) (k i * b r j) 0 refl (vanishes-mul p (k i) (b r j) zero ∙ sym (zero-mod p))
        ∙ ap (λ y. y % p) (omega arith))
  ]
    where
      zero : b r j % p ≡ 0
      zero = vanishes_factor p prime (k r) (b r j) non_zero (sym (reduced.here j jl) ∙ z)

-- what k * x leaves of k
one_of : (p : ℕ) → IsPrime p → (k x : ℕ) → k % p ≢ 0 → k % p ≡ k * x % p → x % p ≡ 1
one_of p prime k x ne e =
    agree_of p x (p - 1) 1
    (vanishes_factor p prime k (x + (p - 1)) ne (
    ap (λ y. y % p) (let s : k * (x + (p - 1)) ≡ k * x + (p - 1) * k = omega arith in s)
    ∙ agree-add p (k * x) k ((p - 1) * k) ((p - 1) * k) (sym e) refl ∙ lacks p prime k))
    (ap (λ y. y % p) (let s : 1 + (p - 1) ≡ 1 + (p - 1) * 1 = omega arith in s) ∙ lacks p prime 1)
    ∙ mod-eq_of_lt prime.above_one

pub reduced-pivoted : (p : ℕ) → IsPrime p → (m n : ℕ) (a b : ℕ → ℕ → ℕ) (r v : ℕ) → r < m → v < n → a r v % p ≢ 0 →
    IsReduced p m n a b r (λ i. a i v) → IsPivoted p m n a b r v
reduced-pivoted p prime m n a b r v rl vl ne reduced = record {
  kernel = kernel p prime m n a b r (λ i. a i v) rl ne reduced;
  one = one;
  zero = zero;
  keeps = keeps p prime m n a b r (λ i. a i v) rl ne reduced;
}
  where
    one : b r v % p ≡ 1
    one = one_of p prime (a r v) (b r v) ne (reduced.here v vl)

    zero : (i : ℕ) → i < m → i ≢ r → b i v % p ≡ 0
    zero i il apart = agree_of p (b i v) (a i v + (p - 1) * a i v) 0
        (ap (λ y. y % p) (let s : b i v + (a i v + (p - 1) * a i v) ≡ b i v + a i v * 1 + (p - 1) * a i v =
        omega arith in s) ∙ agree-add p (b i v + a i v * 1) (a i v) ((p - 1) * a i v) ((p - 1) * a i v)
        (sym whole_is) refl ∙ lacks p prime (a i v))
        (ap (λ y. y % p) (let s : 0 + (a i v + (p - 1) * a i v) ≡ a i v + (p - 1) * a i v = omega arith in s)
        ∙ lacks p prime (a i v)) ∙ zero-mod p
      where
        whole_is : a i v % p ≡ (b i v + a i v * 1) % p
        whole_is = reduced.others i v il vl apart ∙ agree-add p (b i v) (b i v) (a i v * b r v) (a i v * 1) refl
            (agree-mul p (a i v) (b r v) 1 (one ∙ sym (mod-eq_of_lt prime.above_one)))

-- a row that is zero in the column stays
pub reduced-stay : (p m n : ℕ) (a b : ℕ → ℕ → ℕ) (r v : ℕ) → IsReduced p m n a b r (λ i. a i v) →
    ZeroRowsStay p m n a b r v
reduced-stay p m n a b r v reduced i j il jl ne zero =
    sym (reduced.others i j il jl ne
    ∙ agree-add p (b i j) (b i j) (a i v * b r j) 0 refl
    (ap (λ y. y % p) (let q : a i v * b r j ≡ b r j * a i v = omega arith in q)
    ∙ vanishes-mul p (b r j) (a i v) zero ∙ sym (zero-mod p))
    ∙ ap (λ y. y % p) (let q : b i j + 0 ≡ b i j = omega arith in q))
