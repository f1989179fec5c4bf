-- The rank as a function of the set: bounded by the size, monotone and submodular.
use Rattle.std.proofs.Common.{◌≡◌, ℕ, ◌+◌, ◌*◌, ◌%◌, ◌<◌, ◌≤◌, ◌≢◌, Bool, true, false, inl, inr, refl, ap, sym, ◌∙◌, arith}
use Rattle.std.proofs.Math.Nat.{zero-mod}
use Rattle.linear_algebra.specs.Products.{identity}
use Rattle.residue_theory.specs.Sets.{both, either, without, with_one, IsWithin}
use Rattle.residue_theory.specs.Sums.{sum_on, size_on}
use Rattle.residue_theory.specs.Residues.{IsPrime}
use Rattle.linear_algebra.specs.Columns.{IsIndependent, IsRank}
use Rattle.residue_theory.proofs.SumLaws.{size_on-within, without-member, nat_cases}
use Rattle.residue_theory.proofs.SetLaws.{both_true, both-first, both-second, either-first, with_one-member, with_one-other}
use Rattle.residue_theory.proofs.CountLaws.{size-parts, size-without}
use Rattle.residue_theory.proofs.ResidueLaws.{vanishes-mul, vanishes-sum, one_non_zero}
use Rattle.linear_algebra_laws.proofs.Elimination.{dichotomy, NonZeroSolution}
use Rattle.linear_algebra_laws.proofs.Ranks.{Basis, basis, basis-rank, independent-within, rank-unique, rank_exists}
use Rattle.linear_algebra_laws.proofs.Entries.{identity-same, identity-other}

pub rank-size : (p : ℕ) (a : ℕ → ℕ → ℕ) (m n : ℕ) (X : ℕ → Bool) (r : ℕ) → IsRank p a m n X r → r ≤ size_on X n
rank-size p a m n X r R = omega (arith, (R.reached).3, size_on-within X (R.reached).0 n (R.reached).1)

pub rank-monotone : (p : ℕ) (a : ℕ → ℕ → ℕ) (m n : ℕ) (X Y : ℕ → Bool) (r s : ℕ) → IsWithin n X Y → IsRank p a m n X r → IsRank p a m n Y s → r ≤ s
rank-monotone p a m n X Y r s within R S = omega (arith, (R.reached).3, S.greatest (R.reached).0 (λ j l h. within j l ((R.reached).1 j l h)) (R.reached).2)

-- sets with the same members below n have the same rank
pub rank-same_set : (p : ℕ) (a : ℕ → ℕ → ℕ) (m n : ℕ) (X Y : ℕ → Bool) (r : ℕ) → ((j : ℕ) → j < n → X j ≡ Y j) → IsRank p a m n X r → IsRank p a m n Y r
rank-same_set p a m n X Y r same R = record {
  reached = (R.reached.0, (λ j l h. sym (same j l) ∙ R.reached.1 j l h), R.reached.2, R.reached.3);
  greatest = λ Z within ind. R.greatest Z (λ j l h. same j l ∙ within j l h) ind;
}

pub rank_of-independent : (p : ℕ) (a : ℕ → ℕ → ℕ) (m n : ℕ) (X : ℕ → Bool) → IsIndependent p a m n X → IsRank p a m n X (size_on X n)
rank_of-independent p a m n X ind = record { reached = (X, (λ j l h. h), ind, refl); greatest = λ Y within _. size_on-within X Y n within }

pub rank-submodular : (p : ℕ) → IsPrime p → (a : ℕ → ℕ → ℕ) (m n : ℕ) (X Y : ℕ → Bool) (r s u v : ℕ) →
    IsRank p a m n X r → IsRank p a m n Y s → IsRank p a m n (either X Y) u → IsRank p a m n (both X Y) v → u + v ≤ r + s
rank-submodular p prime a m n X Y r s u v RX RY RU RV = go (basis p prime a m n (either X Y) I within_either RV.reached.2 n)
  where
    I : ℕ → Bool
    I = RV.reached.0

    within_both : IsWithin n I (both X Y)
    within_both = RV.reached.1

    within_either : IsWithin n I (either X Y)
    within_either j l h = either-first (X j) (Y j) (both-first (X j) (Y j) (within_both j l h))

    go : Basis p a m n n (either X Y) I → u + v ≤ r + s
    go B = omega (
      arith,
      rank-unique p a m n (either X Y) u (size_on B.I n) RU (basis-rank p prime a m n (either X Y) I B),
      RV.reached.3,
      size_on-within (both B.I (both X Y)) I n (λ j l h. both_true (B.I j) (both X Y j) (B.keeps j l h) (within_both j l h)),
      size-parts B.I X Y n B.within,
      RX.greatest (both B.I X) (λ j l h. both-second (B.I j) (X j) h)
          (independent-within p a m n (both B.I X) B.I (λ j l h. both-first (B.I j) (X j) h) B.independent),
      RY.greatest (both B.I Y) (λ j l h. both-second (B.I j) (Y j) h)
          (independent-within p a m n (both B.I Y) B.I (λ j l h. both-first (B.I j) (Y j) h) B.independent),
    )

pub rank-subadditive : (p : ℕ) → IsPrime p → (a : ℕ → ℕ → ℕ) (m n : ℕ) (X Y : ℕ → Bool) (r s u : ℕ) →
    IsRank p a m n X r → IsRank p a m n Y s → IsRank p a m n (either X Y) u → u ≤ r + s
rank-subadditive p prime a m n X Y r s u RX RY RU = go (rank_exists p prime a m n (both X Y))
  where
    go : (v : ℕ) × IsRank p a m n (both X Y) v → u ≤ r + s
    go (v, RV) = omega (arith, rank-submodular p prime a m n X Y r s u v RX RY RU RV)

-- one more column adds at most one
pub rank-one_more : (p : ℕ) (a : ℕ → ℕ → ℕ) (m n : ℕ) (X : ℕ → Bool) (v r s : ℕ) → v < n → IsRank p a m n X r →
    IsRank p a m n (with_one X v) s → (r ≤ s) × (s ≤ r + 1)
rank-one_more p a m n X v r s vl R S = (
  rank-monotone p a m n X (with_one X v) r s (λ j _ h. with_one-member X v j h) R S,
  omega (
    arith,
    S.reached.3,
    size-without S.reached.0 n v vl,
    R.greatest (without S.reached.0 v)
        (λ j jl jh. let w : (S.reached.0 j ≡ true) × (j ≢ v) = without-member S.reached.0 v j jh in with_one-other X v j (S.reached.1 j jl w.0) w.1)
        (independent-within p a m n (without S.reached.0 v) S.reached.0 (λ j jl jh. (without-member S.reached.0 v j jh).0) S.reached.2),
  ),
)

-- an independent set grows within X to one of the rank's size
pub independent-extends : (p : ℕ) → IsPrime p → (a : ℕ → ℕ → ℕ) (m n : ℕ) (X Z : ℕ → Bool) (r : ℕ) → IsWithin n Z X →
    IsIndependent p a m n Z → IsRank p a m n X r →
    (I : ℕ → Bool) × IsWithin n Z I × IsWithin n I X × IsIndependent p a m n I × (size_on I n ≡ r)
independent-extends p prime a m n X Z r inside free R = go (basis p prime a m n X Z inside free n)
  where
    go : Basis p a m n n X Z → (I : ℕ → Bool) × IsWithin n Z I × IsWithin n I X × IsIndependent p a m n I × (size_on I n ≡ r)
    go B = (B.I, B.keeps, B.within, B.independent, rank-unique p a m n X (size_on B.I n) r (basis-rank p prime a m n X Z B) R)

-- an independent set has at most as many columns as there are rows that are not zero on it
pub independent-rows : (p : ℕ) → IsPrime p → (a : ℕ → ℕ → ℕ) (m n : ℕ) (R Y : ℕ → Bool) →
    ((i j : ℕ) → i < m → j < n → R i ≡ false → Y j ≡ true → a i j % p ≡ 0) → IsIndependent p a m n Y → size_on Y n ≤ size_on R m
independent-rows p prime a m n R Y zeros ind = elim (dichotomy p prime R n m a Y) [
  | inl few ↦ few.1
  | inr s ↦ absurd (s.non_zero (ind s.at (λ i il. at_row s i il (R i) refl) s.place s.below s.member))
]
  where
    at_row : (s : NonZeroSolution p a R m Y n) → (i : ℕ) → i < m → (b : Bool) → R i ≡ b → sum_on Y n (λ j. s.at j * a i j) % p ≡ 0
    at_row s i il true e = s.solves i il e
    at_row s i il false e = vanishes-sum p Y n (λ j. s.at j * a i j) (λ j jl jh. vanishes-mul p (s.at j) (a i j) (zeros i j il jl e jh))

pub rank-rows : (p : ℕ) → IsPrime p → (a : ℕ → ℕ → ℕ) (m n : ℕ) (R X : ℕ → Bool) (r : ℕ) →
    ((i j : ℕ) → i < m → j < n → R i ≡ false → X j ≡ true → a i j % p ≡ 0) → IsRank p a m n X r → r ≤ size_on R m
rank-rows p prime a m n R X r zeros K = omega
    (arith, K.reached.3, independent-rows p prime a m n R K.reached.0 (λ i j il jl e h. zeros i j il jl e (K.reached.1 j jl h)) K.reached.2)

-- an independent set has no zero column
pub no_zero_column : (p : ℕ) → IsPrime p → (a : ℕ → ℕ → ℕ) (m n : ℕ) (Y : ℕ → Bool) → IsIndependent p a m n Y →
    (v : ℕ) → v < n → Y v ≡ true → ((i : ℕ) → i < m → a i v % p ≡ 0) → ⊥
no_zero_column p prime a m n Y ind v vl vh zeros = one_non_zero p prime (mark v) (identity-same v)
    (ind mark (λ i il. vanishes-sum p Y n (λ j. mark j * a i j) (λ j _ _. term i il j)) v vl vh)
  where
    mark : ℕ → ℕ
    mark j = identity v j

    term : (i : ℕ) → i < m → (j : ℕ) → (mark j * a i j) % p ≡ 0
    term i il j = elim (nat_cases j v) [
      | inl q ↦ vanishes-mul p (mark j) (a i j) (ap (λ k. a i k % p) q ∙ zeros i il)
      | inr ne ↦ ap (λ y. (y * a i j) % p) (identity-other v j (λ q. ne (sym q))) ∙ ap (λ y. y % p) (let e : 0 * a i j ≡ 0 = omega arith in e) ∙ zero-mod p
    ]
