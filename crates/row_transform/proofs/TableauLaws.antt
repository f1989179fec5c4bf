-- What the base of a tableau shows, and how it changes.
use Rattle.std.proofs.Common.{◌≡◌, ℕ, ◌*◌, ◌%◌, ◌<◌, ◌≢◌, Bool, true, false, eqb, ◌&&◌, not, ◌⊎◌, inl, inr, sym, subst, ap}
use Rattle.std.proofs.Common.{◌∙◌, arith, replicate, slice_index_or, is_some, None, Option, List, ◌≤◌}
use Rattle.std.proofs.Math.ListN.{get_or-eq_default}
use Rattle.std.proofs.lemmas.List.{get_or-replicate, length-replicate}
use Rattle.std.proofs.lemmas.Bool.Decides.{nat_tests}
use Rattle.residue_theory.specs.Residues.{IsPrime}
use Rattle.residue_theory.specs.Sets.{with_one}
use Rattle.residue_theory.specs.Sums.{sum_below}
use Rattle.residue_theory.proofs.SumLaws.{nat_cases}
use Rattle.linear_algebra.specs.Bases.{IsBase, IsBaseTaken, HasNoBase}
use Rattle.linear_algebra.specs.Columns.{IsCombination}
use Rattle.linear_algebra.specs.Products.{product, Agree, IsInverse}
use Rattle.linear_algebra.specs.RowOperations.{IsPivoted}
use Rattle.linear_algebra_laws.proofs.Bases.{base-within, base-combines, combines_of-base}
use Rattle.linear_algebra_laws.proofs.Pivots.{row_set, row_set-same, row_set-other, base-pivot}
use Rattle.linear_algebra_laws.proofs.Products.{combines-product, combines_of-product}
use Rattle.row_transform.specs.Bases.{IsBaseDropped}

-- ---- the span of the base columns
module _ (p : ℕ) (prime : IsPrime p) (m n : ℕ) (q P S U : ℕ → ℕ → ℕ) (B : ℕ → Bool) (row : ℕ → ℕ)
    (product_is : Agree p m n P (product m S q)) (inverse : IsInverse p m S U) (base : IsBase p P m n B row) where
  -- a column of P is what S makes of the column of q
  pub span-zero : (v : ℕ) → v < n → IsCombination p q m n B v → (i : ℕ) → i < m → HasNoBase n B row i → P i v % p ≡ 0
  span-zero v vl comb i il none =
      product_is i v il vl
      ∙ base-combines p prime P m n B row base (λ t. sum_below m (λ k. S t k * q k v))
      (combines-product p m n S q P B (λ t. q t v) product_is comb) i il none

  pub zero-span : (v : ℕ) → v < n → ((i : ℕ) → i < m → HasNoBase n B row i → P i v % p ≡ 0) →
      IsCombination p q m n B v
  zero-span v vl zeros =
      combines_of-product p prime m n S U q P B (λ t. q t v) inverse product_is
      (combines_of-base p prime P m n B row base (λ t. sum_below m (λ k. S t k * q k v))
      (λ i il none. sym (product_is i v il vl) ∙ zeros i il none))

-- ---- the base
-- a base of which some columns are taken, with their rows
pub base-part : (p : ℕ) (a : ℕ → ℕ → ℕ) (m n : ℕ) (B C : ℕ → Bool) (row now : ℕ → ℕ) →
    ((y : ℕ) → y < n → C y ≡ true → (B y ≡ true) × (now y ≡ row y)) → IsBase p a m n B row → IsBase p a m n C now
base-part p a m n B C row now part base = record {
  row_below = λ b l h. subst (λ r. r < m) (sym (part b l h).1) (base.row_below b l (part b l h).0);
  one = λ b l h. ap (λ r. a r b % p) (part b l h).1 ∙ base.one b l (part b l h).0;
  zero = λ b i l h il ne. base.zero b i l (part b l h).0 il (λ e. ne (e ∙ sym (part b l h).1));
  distinct = λ b c bl cl bh ch e. base.distinct b c bl cl (part b bl bh).0 (part c cl ch).0 (sym (part b bl bh).1 ∙ e
      ∙ (part c cl ch).1);
}

pub base-dropped : (p : ℕ) (a : ℕ → ℕ → ℕ) (m n : ℕ) (B C : ℕ → Bool) (row now : ℕ → ℕ) (v : ℕ) →
    IsBaseDropped n B row C now v → IsBase p a m n B row → IsBase p a m n C now
base-dropped p a m n B C row now v dropped =
    base-part p a m n B C row now (λ y l h. (sym (dropped.others y l (apart y h)) ∙ h, dropped.rows y l (apart y h)))
  where
    apart : (y : ℕ) → C y ≡ true → y ≢ v
    apart y h q = differ (C v) (ap C (sym q) ∙ h) dropped.gone
      where
        differ : (b : Bool) → b ≡ true → b ≡ false → ⊥
        differ b e f = cc

module _ (p : ℕ) (a b : ℕ → ℕ → ℕ) (m n : ℕ) (B C : ℕ → Bool) (row now : ℕ → ℕ) (r v : ℕ)
    (pivoted : IsPivoted p m n a b r v) (rl : r < m) (taken : IsBaseTaken n B row C now r v) where
  -- the base columns of the other rows
  others : ℕ → Bool
  others y = B y && not (eqb (row y) r)

  others-is : (y : ℕ) → others y ≡ true → (B y ≡ true) × (row y ≢ r)
  unfolding others
  others-is y h = grind (arith, nat_tests)

  is-others : (y : ℕ) → B y ≡ true → row y ≢ r → others y ≡ true
  unfolding others
  is-others y h ne = grind (arith, nat_tests)

  pub base-taken : IsBase p a m n B row → IsBase p b m n C now
  base-taken base = base-part p b m n (with_one others v) C (row_set row v r) now moved
      (base-pivot p a b m n others row r v (base-within p a m n others B row (λ y _ h. (others-is y h).0) base)
      pivoted rl (λ c _ h q. (others-is c h).1 (sym q)))
    where
      moved : (y : ℕ) → y < n → C y ≡ true → (with_one others v y ≡ true) × (now y ≡ row_set row v r y)
      moved y l h = elim (nat_cases y v) [
        | inl q ↦ subst (λ k. (with_one others v k ≡ true) × (now k ≡ row_set row v r k)) (sym q) (
          new,
          taken.at_row
              ∙ sym (row_set-same row v r),
        )
        | inr ne ↦ let was = taken.only y l ne h in
            (old y (is-others y was.0 was.1), was.2 ∙ sym (row_set-other row v r y ne))
      ]
        where
          new : with_one others v v ≡ true
          new = grind (arith, nat_tests)

          old : (k : ℕ) → others k ≡ true → with_one others v k ≡ true
          old k e = grind (arith, nat_tests)

-- no column is a base column of an empty base
pub no_column : (n y : ℕ) (none : List (Option ℕ)) → none ≡ replicate n None → is_some (slice_index_or none y None)
    ≡ false
no_column n y none e = ap (λ os. is_some (slice_index_or os y None)) e ∙ elim (before_or_after y n) [
  | inl l ↦ ap is_some (get_or-replicate n y None None l)
  | inr le ↦ ap is_some (get_or-eq_default (replicate n None) None (subst (λ k. k ≤ y) (sym (length-replicate n None))
      le))
]
  where
    before_or_after : (k m : ℕ) → (k < m) ⊎ (m ≤ k)
    before_or_after k m = grind arith
