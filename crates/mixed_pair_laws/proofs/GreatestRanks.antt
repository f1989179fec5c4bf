-- A family of matrices over finitely many values has a greatest rank: the values are searched, one place after the other.
use Rattle.std.proofs.Common.{◌≡◌, ◌+◌, ◌%◌, ◌<◌, ◌≤◌, ◌≢◌, ◌⊎◌, ◌∙◌, ℕ, zero, suc, Bool, true, false, cond, eqb, inl, inr, refl, ap, sym, subst, arith}
use Rattle.std.proofs.Math.Nat.{mod-lt, mod-eq_of_lt}
use Rattle.residue_theory.proofs.CountLaws.{size-everything}
use Rattle.residue_theory.proofs.ResidueLaws.{agree-add}
use Rattle.residue_theory.proofs.SetLaws.{eqb_false, eqb_true, search_below}
use Rattle.residue_theory.proofs.SumLaws.{nat_cases}
use Rattle.residue_theory.specs.Residues.{IsPrime}
use Rattle.residue_theory.specs.Sets.{everything}
use Rattle.linear_algebra.specs.Columns.{IsRank}
use Rattle.linear_algebra.specs.Products.{Agree}
use Rattle.linear_algebra_laws.proofs.Kernels.{kernel_of-agree, rank_of-kernel}
use Rattle.linear_algebra_laws.proofs.RankLaws.{rank-rows, rank-size}
use Rattle.linear_algebra_laws.proofs.Ranks.{rank-unique, rank_exists}
use Rattle.mixed_matrices.specs.Models.{MixedMatrix, numbers, value}
use Rattle.mixed_matrices.specs.StructuralRanks.{IsGreatestRank, IsStructuralRank}

-- ---- searching
-- K is searched up to R: a property that R keeps and that is decided holds somewhere, or nowhere
abbrev Searched : (K : Type 0) → (K → K → Type 0) → Type 1
Searched K R = (D : K → Type 0) → ((a b : K) → R a b → D a → D b) → ((a : K) → D a ⊎ (D a → ⊥)) → ((a : K) × D a) ⊎ ((a : K) → D a → ⊥)

-- a number, up to its residue
abbrev SameResidue : ℕ → ℕ → ℕ → Type 0
SameResidue p x y = x % p ≡ y % p

residues-searched : (p : ℕ) → 0 < p → Searched ℕ (SameResidue p)
residues-searched p pos D keeps decide = go (search_below p D (λ k _. decide k))
  where
    go : ((k : ℕ) × (k < p) × D k) ⊎ ((k : ℕ) → k < p → D k → ⊥) → ((a : ℕ) × D a) ⊎ ((a : ℕ) → D a → ⊥)
    go (inl (k, _, d)) = inl (k, d)
    go (inr none) = inr (λ a d. none (a % p) (mod-lt a pos) (keeps a (a % p) (sym (mod-eq_of_lt (mod-lt a pos))) d))

-- a function below n, where each of its values is searched
abbrev AgreesBelow : (K : Type 0) → (K → K → Type 0) → ℕ → (ℕ → K) → (ℕ → K) → Type 0
AgreesBelow K R n f g = (j : ℕ) → j < n → R (f j) (g j)

module _ (K : Type 0) (R : K → K → Type 0) (same : (a : K) → R a a) (default : K) (each : Searched K R) where
  put : (ℕ → K) → ℕ → K → ℕ → K
  put f n a j = cond (eqb j n) a (f j)

  put-there : (f : ℕ → K) (n : ℕ) (a : K) (j : ℕ) → eqb j n ≡ true → put f n a j ≡ a
  unfolding put
  put-there f n a j e = ap (λ b. cond b a (f j)) e

  put-other : (f : ℕ → K) (n : ℕ) (a : K) (j : ℕ) → eqb j n ≡ false → put f n a j ≡ f j
  unfolding put
  put-other f n a j e = ap (λ b. cond b a (f j)) e

  equal : (a b : K) → a ≡ b → R a b
  equal a b q = subst (λ c. R a c) q (same a)

  -- a value at n that is replaced by a related one, over functions that agree below n
  put-agrees : (n : ℕ) (f g : ℕ → K) (a b : K) → AgreesBelow K R n f g → R a b → AgreesBelow K R (suc n) (put f n a) (put g n b)
  put-agrees n f g a b h r j jl = go (eqb j n) refl
    where
      go : (v : Bool) → eqb j n ≡ v → R (put f n a j) (put g n b j)
      go true e = subst (λ c. R c (put g n b j)) (sym (put-there f n a j e)) (subst (λ c. R a c) (sym (put-there g n b j e)) r)
      go false e = subst (λ c. R c (put g n b j)) (sym (put-other f n a j e))
          (subst (λ c. R (f j) c) (sym (put-other g n b j e)) (h j (let ne : j ≢ n = eqb_false j n e in omega arith)))

  put-same : (n : ℕ) (f : ℕ → K) → AgreesBelow K R (suc n) f (put f n (f n))
  put-same n f j jl = go (eqb j n) refl
    where
      go : (v : Bool) → eqb j n ≡ v → R (f j) (put f n (f n) j)
      go true e = equal (f j) (put f n (f n) j) (ap f (eqb_true j n e) ∙ sym (put-there f n (f n) j e))
      go false e = equal (f j) (put f n (f n) j) (sym (put-other f n (f n) j e))

  functions-searched : (n : ℕ) → Searched (ℕ → K) (AgreesBelow K R n)
  functions-searched zero D keeps decide = elim (decide (λ _. default)) [
    | inl d ↦ inl ((λ _. default), d)
    | inr never ↦ inr (λ f d. never (keeps f (λ _. default) (λ j jl. absurd (omega arith)) d))
  ]
  functions-searched (suc n) D keeps decide = go (λ a. functions-searched n (λ f. D (put f n a))
      (λ f g h d. keeps (put f n a) (put g n a) (put-agrees n f g a a h (same a)) d) (λ f. decide (put f n a)))
    where
      decided : (a : K) → ((f : ℕ → K) × D (put f n a)) ⊎ ((f : ℕ → K) → D (put f n a) → ⊥) →
          ((f : ℕ → K) × D (put f n a)) ⊎ (((f : ℕ → K) × D (put f n a)) → ⊥)
      decided a (inl found) = inl found
      decided a (inr none) = inr (λ (f, d). none f d)

      go : ((a : K) → ((f : ℕ → K) × D (put f n a)) ⊎ ((f : ℕ → K) → D (put f n a) → ⊥)) → ((f : ℕ → K) × D f) ⊎ ((f : ℕ → K) → D f → ⊥)
      go at = elim (each (λ a. (f : ℕ → K) × D (put f n a))
          (λ a b r (f, d). (f, keeps (put f n a) (put f n b) (put-agrees n f f a b (λ j _. same (f j)) r) d))
          (λ a. decided a (at a))) [
            | inl (a, (f, d)) ↦ inl (put f n a, d)
            | inr none ↦ inr (λ f d. none (f n) (f, keeps f (put f n (f n)) (put-same n f) d))
          ]

-- the greatest of some numbers below n
greatest_of : (P : ℕ → Type 0) (n : ℕ) → ((k : ℕ) → P k ⊎ (P k → ⊥)) → ((k : ℕ) → P k → k < n) → (k : ℕ) → P k → (g : ℕ) × P g × ((j : ℕ) → P j → j ≤ g)
greatest_of P zero decide below k h = absurd (omega (arith, below k h))
greatest_of P (suc n) decide below k h = go (decide n) (λ less. greatest_of P n decide less k h)
  where
    go : P n ⊎ (P n → ⊥) → (((j : ℕ) → P j → j < n) → (g : ℕ) × P g × ((j : ℕ) → P j → j ≤ g)) → (g : ℕ) × P g × ((j : ℕ) → P j → j ≤ g)
    go (inl here) ih = (n, here, λ j d. omega (arith, below j d))
    go (inr never) ih = ih (λ j d. elim (nat_cases j n) [ inl q ↦ absurd (never (subst P q d)) | inr ne ↦ omega (arith, below j d) ])

-- ---- ranks
module _ (p : ℕ) (prime : IsPrime p) (m n : ℕ) (at : (ℕ → ℕ → ℕ) → ℕ → ℕ → ℕ)
    (agrees : (v w : ℕ → ℕ → ℕ) → Agree p m n v w → Agree p m n (at v) (at w)) where
  ranked : (r : ℕ) → ((w : ℕ → ℕ → ℕ) × IsRank p (at w) m n everything r) ⊎ ((w : ℕ → ℕ → ℕ) → IsRank p (at w) m n everything r → ⊥)
  ranked r = functions-searched (ℕ → ℕ) (AgreesBelow ℕ (SameResidue p) n) (λ f j _. refl) (λ _. 0)
      (functions-searched ℕ (SameResidue p) (λ _. refl) 0 (residues-searched p (omega (arith, prime.above_one))) n) m
      (λ w. IsRank p (at w) m n everything r)
      (λ v w h K. rank_of-kernel p m n (at v) (at w) everything r (kernel_of-agree p m n (at v) (at w) (agrees v w (λ i j il jl. h i il j jl))) K)
      (λ w. decided w (rank_exists p prime (at w) m n everything))
    where
      decided : (w : ℕ → ℕ → ℕ) → (s : ℕ) × IsRank p (at w) m n everything s → IsRank p (at w) m n everything r ⊎ (IsRank p (at w) m n everything r → ⊥)
      decided w (s, S) = elim (nat_cases s r) [
        | inl q ↦ inl (subst (λ k. IsRank p (at w) m n everything k) q S)
        | inr ne ↦ inr (λ K. ne (rank-unique p (at w) m n everything s r S K))
      ]

  -- there is a greatest rank
  pub greatest_exists : (r : ℕ) × IsGreatestRank p m n at r
  greatest_exists = go (rank_exists p prime (at (λ _ _. 0)) m n everything)
    where
      either_way : (r : ℕ) → ((w : ℕ → ℕ → ℕ) × IsRank p (at w) m n everything r) ⊎ ((w : ℕ → ℕ → ℕ) → IsRank p (at w) m n everything r → ⊥) →
          ((w : ℕ → ℕ → ℕ) × IsRank p (at w) m n everything r) ⊎ (((w : ℕ → ℕ → ℕ) × IsRank p (at w) m n everything r) → ⊥)
      either_way r (inl found) = inl found
      either_way r (inr none) = inr (λ (w, K). none w K)

      go : (r : ℕ) × IsRank p (at (λ _ _. 0)) m n everything r → (r : ℕ) × IsGreatestRank p m n at r
      go (r, K) = shown (greatest_of (λ k. (w : ℕ → ℕ → ℕ) × IsRank p (at w) m n everything k) (n + 1) (λ k. either_way k (ranked k))
          (λ k (w, S). omega (arith, rank-size p (at w) m n everything k S, size-everything n)) r ((λ _ _. 0), K))
        where
          shown : (g : ℕ) × ((w : ℕ → ℕ → ℕ) × IsRank p (at w) m n everything g) × ((j : ℕ) → ((w : ℕ → ℕ → ℕ) × IsRank p (at w) m n everything j) → j ≤ g) →
              (r : ℕ) × IsGreatestRank p m n at r
          shown (g, found, most) = (g, record { reached = found; greatest = λ w s S. most s (w, S) })

-- a greatest rank is at most the number of rows and of columns
pub greatest-size : (p : ℕ) → IsPrime p → (m n : ℕ) (at : (ℕ → ℕ → ℕ) → ℕ → ℕ → ℕ) (r : ℕ) → IsGreatestRank p m n at r → (r ≤ m) × (r ≤ n)
greatest-size p prime m n at r G = go G.reached
  where
    never : true ≡ false → ⊥
    never h = cc

    go : (w : ℕ → ℕ → ℕ) × IsRank p (at w) m n everything r → (r ≤ m) × (r ≤ n)
    go (w, R) = (
      omega (arith, size-everything m, rank-rows p prime (at w) m n everything everything r (λ i j _ _ h. absurd (never h)) R),
      omega (arith, size-everything n, rank-size p (at w) m n everything r R),
    )

pub mixed-rank_exists : (p : ℕ) → IsPrime p → (M : MixedMatrix) → (r : ℕ) × IsStructuralRank p M r
mixed-rank_exists p prime M = greatest_exists p prime M.rows M.columns (value M)
    (λ v w h i j il jl. agree-add p (M.constant i j) (M.constant i j) (numbers M.symbol v i j) (numbers M.symbol w i j)
    refl (chosen (M.symbol i j) (v i j) (w i j) (h i j il jl)))
  where
    chosen : (b : Bool) (x y : ℕ) → x % p ≡ y % p → cond b x 0 % p ≡ cond b y 0 % p
    chosen true x y e = e
    chosen false x y e = refl
