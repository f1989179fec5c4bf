-- A base of unit columns: it is independent, and shows ranks.
use Rattle.std.proofs.Common.{◌≡◌, ℕ, ◌*◌, ◌%◌, ◌<◌, ◌≢◌, Bool, true, ◌&&◌, eqb, ◌⊎◌, inl, inr, ap, sym, subst, ◌∙◌, arith}
use Rattle.residue_theory.specs.Sets.{without, both, IsWithin}
use Rattle.linear_algebra.specs.Bases.{IsBase, HasNoBase}
use Rattle.std.proofs.Math.Nat.{zero-mod, mod-eq_of_lt}
use Rattle.residue_theory.specs.Sums.{sum_on, size_on}
use Rattle.residue_theory.specs.Residues.{IsPrime}
use Rattle.linear_algebra.specs.Columns.{IsIndependent, IsRank, Combines}
use Rattle.residue_theory.proofs.SumLaws.{sum_on-without, without-member}
use Rattle.residue_theory.proofs.ResidueLaws.{vanishes-mul, vanishes-sum, agree-add, agree-mul}
use Rattle.residue_theory.proofs.SetLaws.{both-first, both-second, both-refused, eqb_true, eqb_false, first_on, zero_cases}
use Rattle.linear_algebra_laws.proofs.Ranks.{rank_of-basis}

-- part of a base is one
pub base-within : (p : ℕ) (a : ℕ → ℕ → ℕ) (m n : ℕ) (C B : ℕ → Bool) (row : ℕ → ℕ) → IsWithin n C B → IsBase p a m n B row → IsBase p a m n C row
base-within p a m n C B row within base = record {
  row_below = λ b l h. base.row_below b l (within b l h);
  one = λ b l h. base.one b l (within b l h);
  zero = λ b i l h. base.zero b i l (within b l h);
  distinct = λ b c bl cl bh ch. base.distinct b c bl cl (within b bl bh) (within c cl ch);
}

-- ---- what base columns combine to at one row
module _ (p : ℕ) (prime : IsPrime p) (P : ℕ → ℕ → ℕ) (m n : ℕ) (B : ℕ → Bool) (row : ℕ → ℕ) (base : IsBase p P m n B row) where
  -- at the row of b, base columns combine to the coefficient of b
  pub base-row : (Y : ℕ → Bool) → IsWithin n Y B → (c : ℕ → ℕ) (b : ℕ) → b < n → Y b ≡ true → sum_on Y n (λ j. c j * P (row b) j) % p ≡ c b % p
  base-row Y within c b bl bh = ap (λ s. s % p) (sum_on-without Y n b (λ j. c j * P (row b) j) bl bh)
      ∙ agree-add p (sum_on (without Y b) n (λ j. c j * P (row b) j)) 0 (c b * P (row b) b) (c b) others at_b ∙ ap (λ s. s % p) (omega arith)
    where
      others : sum_on (without Y b) n (λ j. c j * P (row b) j) % p ≡ 0 % p
      others = vanishes-sum p (without Y b) n (λ j. c j * P (row b) j) (λ j jl jh. vanishes-mul p (c j) (P (row b) j)
          (let w : (Y j ≡ true) × (j ≢ b) = without-member Y b j jh in base.zero j (row b) jl (within j jl w.0) (base.row_below b bl (within b bl bh))
          (λ q. w.1 (base.distinct j b jl bl (within j jl w.0) (within b bl bh) (sym q)))))
          ∙ sym (zero-mod p)

      at_b : (c b * P (row b) b) % p ≡ c b % p
      at_b = agree-mul p (c b) (P (row b) b) 1 (base.one b bl (within b bl bh) ∙ sym (mod-eq_of_lt prime.above_one)) ∙ ap (λ s. s % p) (omega arith)

  -- at a row of none of them, they combine to zero
  pub base-no_row : (Y : ℕ → Bool) → IsWithin n Y B → (c : ℕ → ℕ) (i : ℕ) → i < m →
      ((b : ℕ) → b < n → Y b ≡ true → i ≢ row b) → sum_on Y n (λ j. c j * P i j) % p ≡ 0
  base-no_row Y within c i il none = vanishes-sum p Y n (λ j. c j * P i j)
      (λ j jl jh. vanishes-mul p (c j) (P i j) (base.zero j i jl (within j jl jh) il (none j jl jh)))

  pub base-independent : (Y : ℕ → Bool) → IsWithin n Y B → IsIndependent p P m n Y
  base-independent Y within c s j jl jh = sym (base-row Y within c j jl jh) ∙ s (row j) (base.row_below j jl (within j jl jh))

  -- a row has a base, or none
  pub base_or_none : (i : ℕ) → ((b : ℕ) × (b < n) × (B b ≡ true) × (row b ≡ i)) ⊎ HasNoBase n B row i
  base_or_none i = elim (first_on (λ b. B b && eqb (row b) i) n) [
    | inl found ↦ inl (
      found.0,
      found.1,
      both-first (B found.0) (eqb (row found.0) i) found.2,
      eqb_true (row found.0) i (both-second (B found.0) (eqb (row found.0) i) found.2),
    )
    | inr none ↦ inr (λ b bl bh. eqb_false (row b) i (both-refused (B b) (eqb (row b) i) (none b bl) bh))
  ]

  -- what base columns combine to is zero at each row without base
  pub base-combines : (x : ℕ → ℕ) → Combines p P m n B x → (i : ℕ) → i < m → HasNoBase n B row i → x i % p ≡ 0
  base-combines x (c, s) i il none = sym (s i il) ∙ base-no_row B (λ j _ h. h) c i il (λ b bl bh q. none b bl bh (sym q))

  -- and they combine to each such column, with its entries at their rows for coefficients
  pub combines_of-base : (x : ℕ → ℕ) → ((i : ℕ) → i < m → HasNoBase n B row i → x i % p ≡ 0) → Combines p P m n B x
  combines_of-base x zeros = ((λ b. x (row b)), λ i il. at_row i il (base_or_none i))
    where
      at_row : (i : ℕ) → i < m → ((b : ℕ) × (b < n) × (B b ≡ true) × (row b ≡ i)) ⊎ HasNoBase n B row i → sum_on B n (λ b. x (row b) * P i b) % p ≡ x i % p
      at_row i il (inl (b, bl, bh, q)) = subst (λ k. sum_on B n (λ c. x (row c) * P k c) % p ≡ x k % p) q (base-row B (λ j _ h. h) (λ c. x (row c)) b bl bh)
      at_row i il (inr none) = base-no_row B (λ j _ h. h) (λ c. x (row c)) i il (λ b bl bh q. none b bl bh (sym q)) ∙ sym (zeros i il none)

-- ---- the rank that a base shows
module _ (p : ℕ) (prime : IsPrime p) (P : ℕ → ℕ → ℕ) (m n : ℕ) (B : ℕ → Bool) (row : ℕ → ℕ) (base : IsBase p P m n B row) (X : ℕ → Bool) where
  part_base : IsBase p P m n (both B X) row
  part_base = base-within p P m n (both B X) B row (λ j _ h. both-first (B j) (X j) h) base

  -- a set whose columns are zero at each row that none of its own base columns has
  pub rank_of-base_rows : ((i j : ℕ) → i < m → j < n → X j ≡ true → HasNoBase n (both B X) row i → P i j % p ≡ 0) → IsRank p P m n X (size_on (both B X) n)
  rank_of-base_rows zeros = rank_of-basis p prime P m n X (both B X) (λ j l h. both-second (B j) (X j) h)
      (base-independent p prime P m n (both B X) row part_base (both B X) (λ j _ h. h))
      (λ j jl jh. combines_of-base p prime P m n (both B X) row part_base (λ i. P i j) (λ i il none. zeros i j il jl jh none))

  -- the same, where each entry that is not zero stands in the row of a base column of X
  pub rank_of-base : ((j i : ℕ) → j < n → X j ≡ true → i < m → P i j % p ≢ 0 → (b : ℕ) × (b < n) × (both B X b ≡ true)
      × (row b ≡ i)) → IsRank p P m n X (size_on (both B X) n)
  rank_of-base shown = rank_of-base_rows (λ i j il jl jh none. zero_or i j none (zero_cases (P i j % p)) (shown j i jl jh il))
    where
      zero_or : (i j : ℕ) → HasNoBase n (both B X) row i → (P i j % p ≡ 0) ⊎ (P i j % p ≢ 0) →
          (P i j % p ≢ 0 → (b : ℕ) × (b < n) × (both B X b ≡ true) × (row b ≡ i)) → P i j % p ≡ 0
      zero_or i j none (inl z) found = z
      zero_or i j none (inr ne) found = absurd (none (found ne).0 (found ne).1 (found ne).2 (found ne).3)
