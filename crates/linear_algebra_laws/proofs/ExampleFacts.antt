-- What the worked examples share: coefficients 1 and -1 combine equal columns to zero.
use Rattle.std.proofs.Common.{ℕ, cond, eqb, refl, arith}
use Rattle.residue_theory.specs.Sets.{everything, only}
use Rattle.residue_theory.proofs.Primes.{prime_65521}
use Rattle.linear_algebra.specs.Columns.{IsIndependent, IsRank, CombinesToZero}
use Rattle.linear_algebra_laws.specs.Examples.{all_ones}
use Rattle.linear_algebra_laws.proofs.Ranks.{rank_of-basis}

-- 1 at column 0, and -1 elsewhere
abbrev pub one_and_less_one : ℕ → ℕ
one_and_less_one j = cond (eqb j 0) 1 65520

pub ones-combine : CombinesToZero 65521 all_ones 2 2 everything one_and_less_one
ones-combine i l = refl

pub one_column : IsIndependent 65521 all_ones 2 2 (only 0)
one_column c s j l h = grind (arith, s 0 (omega arith), h)

pub ones-rank : IsRank 65521 all_ones 2 2 everything 1
ones-rank = rank_of-basis 65521 prime_65521 all_ones 2 2 everything (only 0) (λ _ _ _. refl) one_column (λ j _ _. ((λ _. 1), λ i _. refl))
