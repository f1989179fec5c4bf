-- A part of a matrix: independent in the part means independent at its rows.
use Rattle.std.proofs.Common.{◌≡◌, ℕ, ◌*◌, ◌%◌, ◌<◌, ◌≤◌, Bool, true, false, refl, ap, sym, ◌∙◌, arith}
use Rattle.std.proofs.Math.Nat.{zero-mod}
use Rattle.residue_theory.specs.Sets.{both, everything, IsWithin}
use Rattle.residue_theory.specs.Residues.{IsPrime}
use Rattle.residue_theory.specs.Sums.{sum_on}
use Rattle.residue_theory.proofs.SumLaws.{sum_on-ext}
use Rattle.residue_theory.proofs.SetLaws.{both_true, both-first, both-second}
use Rattle.residue_theory.proofs.ResidueLaws.{vanishes-mul, vanishes-sum}
use Rattle.linear_algebra.specs.Columns.{IsIndependent, IsRank}
use Rattle.linear_algebra.specs.Parts.{part}
use Rattle.linear_algebra_laws.proofs.Elimination.{OnlyZero}
use Rattle.linear_algebra_laws.proofs.RankLaws.{no_zero_column}
use Rattle.linear_algebra_laws.proofs.Entries.{part-shown, part-other_row, part-other_column}

module _ (p m n : ℕ) (a : ℕ → ℕ → ℕ) (R X Y : ℕ → Bool) (within : IsWithin n Y X) where
  pub part-only_zero : IsIndependent p (part R X a) m n Y → OnlyZero p a R m Y n
  part-only_zero ind c s = ind c (λ i il. go i il (R i) refl)
    where
      go : (i : ℕ) → i < m → (b : Bool) → R i ≡ b → sum_on Y n (λ j. c j * part R X a i j) % p ≡ 0
      go i il true e = ap (λ y. y % p) (sum_on-ext Y n (λ j. c j * part R X a i j) (λ j. c j * a i j)
          (λ j jl jh. ap (λ y. c j * y) (part-shown R X a i j e (within j jl jh)))) ∙ s i il e
      go i il false e = vanishes-sum p Y n (λ j. c j * part R X a i j)
          (λ j jl jh. vanishes-mul p (c j) (part R X a i j) (ap (λ y. y % p) (part-other_row R X a i j e) ∙ zero-mod p))

  pub only_zero-part : OnlyZero p a R m Y n → IsIndependent p (part R X a) m n Y
  only_zero-part only c s = only c (λ i il e. ap (λ y. y % p)
      (sum_on-ext Y n (λ j. c j * a i j) (λ j. c j * part R X a i j) (λ j jl jh. ap (λ y. c j * y) (sym (part-shown R X a i j e (within j jl jh))))) ∙ s i il)

-- an independent set of a part has columns of the part alone, and is independent in the whole
pub part-columns : (p : ℕ) → IsPrime p → (m n : ℕ) (a : ℕ → ℕ → ℕ) (R X Y : ℕ → Bool) → IsIndependent p (part R X a) m n Y → IsWithin n Y X
part-columns p prime m n a R X Y ind j jl jh = go (X j) refl
  where
    go : (b : Bool) → X j ≡ b → X j ≡ true
    go true e = e
    go false e = absurd (no_zero_column p prime (part R X a) m n Y ind j jl jh (λ i _. ap (λ y. y % p) (part-other_column R X a i j e) ∙ zero-mod p))

pub part-independent : (p : ℕ) → IsPrime p → (m n : ℕ) (a : ℕ → ℕ → ℕ) (R X Y : ℕ → Bool) → IsIndependent p (part R X a) m n Y → IsIndependent p a m n Y
part-independent p prime m n a R X Y ind c s = part-only_zero p m n a R X Y (part-columns p prime m n a R X Y ind) ind c (λ i il _. s i il)

-- so it has at most the rank of the whole
pub part-rank : (p : ℕ) → IsPrime p → (m n : ℕ) (a : ℕ → ℕ → ℕ) (R X Y : ℕ → Bool) (r s : ℕ) → IsRank p a m n Y r → IsRank p (part R X a) m n Y s → s ≤ r
part-rank p prime m n a R X Y r s K S = omega (
  arith,
  S.reached.3,
  K.greatest S.reached.0 S.reached.1
      (part-independent p prime m n a R X S.reached.0 S.reached.2),
)

-- the columns of X alone have on Y the rank of the columns of both
pub part_columns-rank : (p : ℕ) → IsPrime p → (m n : ℕ) (a : ℕ → ℕ → ℕ) (X Y : ℕ → Bool) (r : ℕ) →
    IsRank p a m n (both Y X) r → IsRank p (part everything X a) m n Y r
part_columns-rank p prime m n a X Y r K = record {
  reached = (
    K.reached.0,
    (λ j l h. both-first (Y j) (X j) (K.reached.1 j l h)),
    only_zero-part p m n a everything X K.reached.0
        (λ j l h. both-second (Y j) (X j) (K.reached.1 j l h)) (λ c s. K.reached.2 c (λ i il. s i il refl)),
    K.reached.3,
  );
  greatest = λ Z within ind. K.greatest Z (λ j l h. both_true (Y j) (X j) (within j l h) (part-columns p prime m n a everything X Z ind j l h))
      (part-independent p prime m n a everything X Z ind);
}
