-- A tableau: P = S * a for an invertible S, with a base of unit columns of P. What the base shows of P holds of a.
use Rattle.std.proofs.Common.{◌≡◌, ℕ, ◌%◌, ◌<◌, Bool, true, sym, ◌∙◌}
use Rattle.residue_theory.specs.Sets.{both}
use Rattle.residue_theory.specs.Sums.{size_on}
use Rattle.residue_theory.specs.Residues.{IsPrime}
use Rattle.linear_algebra.specs.Columns.{IsIndependent, IsRank, IsCombination}
use Rattle.linear_algebra.specs.Products.{product, IsInverse, Agree}
use Rattle.linear_algebra.specs.Bases.{IsBase, HasNoBase}
use Rattle.linear_algebra_laws.proofs.Products.{independent-agree, independent_of-product, rank_of-product, combines-product, combines_of-product}
use Rattle.linear_algebra_laws.proofs.Bases.{base-independent, base-combines, combines_of-base, rank_of-base_rows}

module _ (p : ℕ) (prime : IsPrime p) (m n : ℕ) (S U a P : ℕ → ℕ → ℕ) (B : ℕ → Bool) (row : ℕ → ℕ)
    (inv : IsInverse p m S U) (same : Agree p m n P (product m S a)) (base : IsBase p P m n B row) where
  -- the base columns are independent in a
  pub tableau-independent : IsIndependent p a m n B
  tableau-independent = independent_of-product p m m n S a B
      (independent-agree p m n P (product m S a) B same (base-independent p prime P m n B row base B (λ j _ h. h)))

  -- a column of a is a combination of them exactly where P is zero in it at each row without base
  pub tableau-zero : (v : ℕ) → v < n → IsCombination p a m n B v → (i : ℕ) → i < m → HasNoBase n B row i → P i v % p ≡ 0
  tableau-zero v vl comb i il none = same i v il vl
      ∙ base-combines p prime P m n B row base (λ k. product m S a k v) (combines-product p m n S a P B (λ t. a t v) same comb) i il none

  pub tableau-combination : (v : ℕ) → v < n → ((i : ℕ) → i < m → HasNoBase n B row i → P i v % p ≡ 0) → IsCombination p a m n B v
  tableau-combination v vl zeros = combines_of-product p prime m n S U a P B (λ t. a t v) inv same
      (combines_of-base p prime P m n B row base (λ k. product m S a k v) (λ i il none. sym (same i v il vl) ∙ zeros i il none))

  -- where X is zero in P at each row without base in X, its rank in a is the number of its base columns
  pub tableau-rank : (X : ℕ → Bool) →
      ((i j : ℕ) → i < m → j < n → X j ≡ true → HasNoBase n (both B X) row i → P i j % p ≡ 0) →
      IsRank p a m n X (size_on (both B X) n)
  tableau-rank X zeros = rank_of-product p prime m n S U a P X (size_on (both B X) n) inv same (rank_of-base_rows p prime P m n B row base X zeros)
