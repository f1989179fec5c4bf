-- A kept inverse of M(w) shows that 1 at a place lowers the rank, whatever the other symbols are: the rows of a set and the
-- row of the place meet, in the product of M(x) and the inverse, only the rows of that set.
use Rattle.std.proofs.Common.{◌≡◌, ℕ, ◌+◌, ◌*◌, ◌%◌, ◌<◌, ◌≢◌, Bool, true, false, cond, ◌⊎◌, inl, inr, refl, ap, sym}
use Rattle.std.proofs.Common.{subst, ◌∙◌, arith}
use Rattle.std.proofs.Math.Nat.{zero-mod}
use Rattle.residue_theory.proofs.CountLaws.{size-everything, sum-with_one}
use Rattle.residue_theory.proofs.ResidueLaws.{agree-add, agree-mul, agree-sum, vanishes-add, vanishes-mul}
use Rattle.residue_theory.proofs.SetLaws.{differ, with_one-other}
use Rattle.residue_theory.proofs.SumLaws.{member-without, nat_cases, size_on-within, sum_on-ext, sum_on-same}
use Rattle.residue_theory.proofs.SumLaws.{sum_on-within, sum_on-without, without-member}
use Rattle.residue_theory.specs.Residues.{IsPrime}
use Rattle.residue_theory.specs.Sets.{everything, with_one, without}
use Rattle.residue_theory.specs.Sums.{size_on, sum_below, sum_on}
use Rattle.linear_algebra.specs.Columns.{IsIndependent, IsRank}
use Rattle.linear_algebra.specs.Products.{IsInverse, identity, product}
use Rattle.linear_algebra_laws.proofs.Entries.{identity-other, identity-same}
use Rattle.linear_algebra_laws.proofs.Products.{inverse-swap, kernel-zero, sum-product}
use Rattle.linear_algebra_laws.proofs.RankLaws.{independent-rows, rank-size, rank_of-independent}
use Rattle.mixed_matrices.specs.Models.{MixedMatrix, value}
use Rattle.mixed_matrices.specs.StructuralRanks.{IsStructuralRank}
use Rattle.mixed_pair_laws.proofs.GreatestRanks.{mixed-rank_exists}
use Rattle.value_list_laws.proofs.FixedRanks.{at-place, fixed-with, place-there}
use Rattle.value_list_laws.specs.FixedSymbols.{IsRankWith, IsSymbolPlace, LowersRank, fixed_at, place}
use Rattle.value_list_laws.specs.KeptInverses.{ShowsALowering}

-- a set as large as it can be holds all
all-in : (n : ℕ) (Y : ℕ → Bool) → size_on Y n ≡ n → (j : ℕ) → j < n → Y j ≡ true
all-in n Y size j jl = go (Y j) refl
  where
    go : (b : Bool) → Y j ≡ b → Y j ≡ true
    go true e = e
    go false e = absurd (omega (
      arith,
      size_on-within (without everything j) Y n (λ k _ h. member-without everything j k refl (λ q. differ (subst (λ x. Y x ≡ false) (sym q) e) h)),
      sum_on-without everything n j (λ _. 1) jl refl,
      size-everything n,
    ))

all-independent : (p n : ℕ) (a : ℕ → ℕ → ℕ) → IsRank p a n n everything n → IsIndependent p a n n everything
all-independent p n a R c s j jl _ = R.reached.2 c
    (λ i il. ap (λ y. y % p) (sum_on-same R.reached.0 everything n (λ j. c j * a i j) (λ j jl. all-in n R.reached.0 R.reached.3 j jl)) ∙ s i il)
    j jl (all-in n R.reached.0 R.reached.3 j jl)

module _ (p : ℕ) (prime : IsPrime p) (n : ℕ) where
  -- a matrix with an inverse on its right has independent columns
  pub inverse-independent : (W G : ℕ → ℕ → ℕ) → IsInverse p n W G → IsIndependent p W n n everything
  inverse-independent W G inv c s j jl _ = kernel-zero p prime n W G inv c
      (λ i il. ap (λ y. y % p) (sum_on-ext everything n (λ t. W i t * c t) (λ t. c t * W i t) (λ t _ _. omega arith)) ∙ s i il) j jl

  -- columns of N * G are independent where all columns of N are
  product-columns : (N W G : ℕ → ℕ → ℕ) (X : ℕ → Bool) → IsInverse p n W G → IsIndependent p N n n everything → IsIndependent p (product n N G) n n X
  product-columns N W G X inv ind c s j jl jh = chosen (X j) jh
      (kernel-zero p prime n G W (inverse-swap p prime n W G inv) (λ t. cond (X t) (c t) 0) zeros j jl)
    where
      pulled : (b : Bool) (x y : ℕ) → x * cond b y 0 ≡ cond b (y * x) 0
      pulled true x y = omega arith
      pulled false x y = omega arith

      zeros : (t : ℕ) → t < n → sum_below n (λ j. G t j * cond (X j) (c j) 0) % p ≡ 0
      zeros t tl = ap (λ y. y % p) (sum_on-ext everything n (λ j. G t j * cond (X j) (c j) 0) (λ j. cond (X j) (c j * G t j) 0)
          (λ j _ _. pulled (X j) (G t j) (c j)) ∙ sum_on-within everything X n (λ j. c j * G t j) (λ _ _ _. refl))
          ∙ ind (λ t. sum_on X n (λ j. c j * G t j)) (λ i il. ap (λ y. y % p)
          (sum_on-ext everything n (λ t. sum_on X n (λ j. c j * G t j) * N i t) (λ t. N i t * sum_on X n (λ j. c j * G t j)) (λ t _ _. omega arith)
          ∙ sym (sum-product n n N G X c i)) ∙ s i il) t tl refl

      chosen : (b : Bool) → b ≡ true → cond b (c j) 0 % p ≡ 0 → c j % p ≡ 0
      chosen true h z = z
      chosen false h z = absurd (differ refl h)

  module _ (N W G : ℕ → ℕ → ℕ) (inv : IsInverse p n W G) (i j d : ℕ) (il : i < n) (jl : j < n) (A : ℕ → Bool) (out : A i ≡ false)
      (moved : N i j % p ≡ (W i j + d) % p) (tie : (1 + d * G j i) % p ≡ 0)
      (apart : (c : ℕ) → c < n → A c ≡ true → G j c % p ≡ 0)
      (kept : (a b : ℕ) → a < n → b < n → A a ≡ false → place i j a b ≡ false →
      (N a b % p ≡ W a b % p) ⊎ ((t : ℕ) → t < n → with_one A i t ≡ true → G b t % p ≡ 0))
    where
      term : (a b t : ℕ) → a < n → b < n → t < n → A a ≡ false → place i j a b ≡ false → with_one A i t ≡ true → (N a b * G b t) % p ≡ (W a b * G b t) % p
      term a b t al bl tl ah not_there th = elim (kept a b al bl ah not_there) [
        | inl same ↦ agree-mul_first (N a b) (W a b) (G b t) same
        | inr zero ↦ vanishes-mul p (N a b) (G b t) (zero t tl th) ∙ sym (vanishes-mul p (W a b) (G b t) (zero t tl th))
      ]
        where
          agree-mul_first : (x y z : ℕ) → x % p ≡ y % p → (x * z) % p ≡ (y * z) % p
          agree-mul_first x y z e = ap (λ s. s % p) (let q : x * z ≡ z * x = omega arith in q) ∙ agree-mul p z x y e
              ∙ ap (λ s. s % p) (let q : z * y ≡ y * z = omega arith in q)

      other_row : (a t : ℕ) → a < n → t < n → A a ≡ false → a ≢ i → with_one A i t ≡ true → product n N G a t % p ≡ 0
      other_row a t al tl ah ne th = agree-sum p everything n (λ b. N a b * G b t) (λ b. W a b * G b t)
          (λ b bl _. term a b t al bl tl ah (elsewhere b) th) ∙ inv a t al tl ∙ ap (λ y. y % p) (identity-other a t beside) ∙ zero-mod p
        where
          elsewhere : (b : ℕ) → place i j a b ≡ false
          elsewhere b = go (place i j a b) refl
            where
              go : (q : Bool) → place i j a b ≡ q → place i j a b ≡ false
              go false e = e
              go true e = absurd (ne (at-place (λ x y. x ≡ i) i j a b e refl))

          beside : a ≢ t
          beside q = elim (nat_cases t i) [
            | inl e ↦ ne (q ∙ e)
            | inr o ↦ differ (subst (λ x. A x ≡ false) q ah) (with_one-other A i t th o)
          ]

      its_row : (t : ℕ) → t < n → with_one A i t ≡ true → product n N G i t % p ≡ 0
      its_row t tl th = ap (λ y. y % p) (sum_on-without everything n j (λ b. N i b * G b t) jl refl)
          ∙ agree-add p (sum_on (without everything j) n (λ b. N i b * G b t)) (sum_on (without everything j) n (λ b. W i b * G b t))
          (N i j * G j t) (W i j * G j t + d * G j t) rest there
          ∙ ap (λ y. y % p) (regrouped (sum_on (without everything j) n (λ b. W i b * G b t)) (W i j * G j t) (d * G j t)
          ∙ ap (λ y. y + d * G j t) (sym (sum_on-without everything n j (λ b. W i b * G b t) jl refl)))
          ∙ agree-add p (product n W G i t) (identity i t) (d * G j t) (d * G j t) (inv i t il tl) refl ∙ last
        where
          regrouped : (x y z : ℕ) → x + (y + z) ≡ x + y + z
          regrouped x y z = omega arith

          rest : sum_on (without everything j) n (λ b. N i b * G b t) % p ≡ sum_on (without everything j) n (λ b. W i b * G b t) % p
          rest = agree-sum p (without everything j) n (λ b. N i b * G b t) (λ b. W i b * G b t)
              (λ b bl h. term i b t il bl tl out (elsewhere b (without-member everything j b h).1) th)
            where
              elsewhere : (b : ℕ) → b ≢ j → place i j i b ≡ false
              elsewhere b ne = go (place i j i b) refl
                where
                  go : (q : Bool) → place i j i b ≡ q → place i j i b ≡ false
                  go false e = e
                  go true e = absurd (ne (at-place (λ x y. y ≡ j) i j i b e refl))

          there : (N i j * G j t) % p ≡ (W i j * G j t + d * G j t) % p
          there = ap (λ s. s % p) (let q : N i j * G j t ≡ G j t * N i j = omega arith in q) ∙ agree-mul p (G j t) (N i j) (W i j + d) moved
              ∙ ap (λ s. s % p) (let q : G j t * (W i j + d) ≡ W i j * G j t + d * G j t = omega arith in q)

          last : (identity i t + d * G j t) % p ≡ 0
          last = elim (nat_cases t i) [
            | inl q ↦ subst (λ x. (identity i x + d * G j x) % p ≡ 0) (sym q) (ap (λ y. (y + d * G j i) % p) (identity-same i) ∙ tie)
            | inr ne ↦ vanishes-add p (identity i t) (d * G j t) (ap (λ y. y % p) (identity-other i t (λ q. ne (sym q))) ∙ zero-mod p)
                (vanishes-mul p d (G j t) (apart t tl (with_one-other A i t th ne)))
          ]

      pub singular : IsIndependent p N n n everything → ⊥
      singular ind = omega (
        arith,
        independent-rows p prime (product n N G) n n A (with_one A i) zeros (product-columns N W G (with_one A i) inv ind),
        sum-with_one A n i (λ _. 1) il out,
      )
        where
          zeros : (a t : ℕ) → a < n → t < n → A a ≡ false → with_one A i t ≡ true → product n N G a t % p ≡ 0
          zeros a t al tl ah th = elim (nat_cases a i) [
            | inl q ↦ subst (λ x. product n N G x t % p ≡ 0) (sym q) (its_row t tl th)
            | inr ne ↦ other_row a t al tl ah ne th
          ]

module _ (p : ℕ) (prime : IsPrime p) (M : MixedMatrix) (square : M.rows ≡ M.columns) (i j : ℕ) (here : IsSymbolPlace M i j)
    (w G : ℕ → ℕ → ℕ) (d : ℕ) (A : ℕ → Bool) (shows : ShowsALowering p M w G i j d A) where
  row-below : (a : ℕ) → a < M.columns → a < M.rows
  row-below a al = omega (arith, square)

  at_one : (x : ℕ → ℕ → ℕ) → x i j % p ≡ 1 % p → IsIndependent p (value M x) M.columns M.columns everything → ⊥
  at_one x one = singular p prime M.columns (value M x) (value M w) G shows.inverse i j d (omega (arith, here.0, square)) here.1 A shows.outside
      moved shows.singular shows.apart kept
    where
      moved : value M x i j % p ≡ (value M w i j + d) % p
      moved = ap (λ b. (M.constant i j + cond b (x i j) 0) % p) here.2
          ∙ agree-add p (M.constant i j) (M.constant i j) (x i j) (w i j + d) refl (one ∙ sym shows.change)
          ∙ ap (λ y. y % p) (let q : M.constant i j + (w i j + d) ≡ M.constant i j + w i j + d = omega arith in q)
          ∙ ap (λ b. (M.constant i j + cond b (w i j) 0 + d) % p) (sym here.2)

      kept : (a b : ℕ) → a < M.columns → b < M.columns → A a ≡ false → place i j a b ≡ false →
          (value M x a b % p ≡ value M w a b % p) ⊎ ((t : ℕ) → t < M.columns → with_one A i t ≡ true → G b t % p ≡ 0)
      kept a b al bl ah elsewhere = go (M.symbol a b) refl
        where
          go : (s : Bool) → M.symbol a b ≡ s →
              (value M x a b % p ≡ value M w a b % p) ⊎ ((t : ℕ) → t < M.columns → with_one A i t ≡ true → G b t % p ≡ 0)
          go false s = inl (ap (λ q. (M.constant a b + cond q (x a b) 0) % p) s ∙ sym (ap (λ q. (M.constant a b + cond q (w a b) 0) % p) s))
          go true s = inr (λ t tl th. elim (nat_cases t i) [
            | inl q ↦ subst (λ y. G b y % p ≡ 0) (sym q) (shows.none a b (row-below a al, bl, s) ah elsewhere)
            | inr ne ↦ shows.closed a b (row-below a al, bl, s) ah elsewhere t tl (with_one-other A i t th ne)
          ])

  full-rank : IsStructuralRank p M M.columns
  full-rank = record {
    reached = (
      w,
      subst (λ m. IsRank p (value M w) m M.columns everything M.columns) (sym square)
          (subst (λ r. IsRank p (value M w) M.columns M.columns everything r) (size-everything M.columns)
          (rank_of-independent p (value M w) M.columns M.columns everything (inverse-independent p prime M.columns (value M w) G shows.inverse))),
    );
    greatest = λ v s S. omega (arith, rank-size p (value M v) M.rows M.columns everything s S, size-everything M.columns);
  }

  pub lowered : LowersRank p M (fixed_at i j 1 M)
  lowered = go (mixed-rank_exists p prime (fixed_at i j 1 M))
    where
      go : (s : ℕ) × IsStructuralRank p (fixed_at i j 1 M) s → LowersRank p M (fixed_at i j 1 M)
      go (s, S) = (M.columns, s, full-rank, S, less (fixed-with p M (place i j) (λ _ _. 1) s S))
        where
          less : IsRankWith p M (place i j) (λ _ _. 1) s → s < M.columns
          less R = elim (nat_cases s M.columns) [
            | inl q ↦ absurd (at_one R.reached.0 (R.reached.1 i j here (place-there i j))
                (all-independent p M.columns (value M R.reached.0)
                (subst (λ m. IsRank p (value M R.reached.0) m M.columns everything M.columns) square
                (subst (λ r. IsRank p (value M R.reached.0) M.rows M.columns everything r) q R.reached.2))))
            | inr ne ↦ omega (
              arith,
              rank-size p (value M R.reached.0) M.rows M.columns everything s R.reached.2,
              size-everything M.columns,
            )
          ]
