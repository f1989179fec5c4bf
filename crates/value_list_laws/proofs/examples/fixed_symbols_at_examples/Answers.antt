use Rattle.std.proofs.Common.{◌≡◌, ◌%◌, ◌+◌, ◌&&◌, not, cond, ℕ, zero, suc, true, inl, inr, refl, ap, subst, arith}
use Rattle.residue_theory.proofs.Primes.{prime_65521}
use Rattle.residue_theory.proofs.SetLaws.{differ}
use Rattle.mixed_pair_laws.proofs.PairRank.{greatest-unique}
use Rattle.mixed_matrices.specs.Models.{value}
use Rattle.mixed_matrices.specs.StructuralRanks.{IsStructuralRank}
use Rattle.mixed_pair_laws.proofs.GreatestRanks.{mixed-rank_exists}
use Rattle.value_list_laws.proofs.ExampleFacts.{entry-rank, model-rank, one-fails, only-here, two-reaches}
use Rattle.value_list_laws.proofs.FixedRanks.{keeps-with, takes-one, with-keeps}
use Rattle.value_list_laws.specs.Examples.{always, minus_model}
use Rattle.value_list_laws.specs.FixedSymbols.{HaveNumbersAt, KeepsRank, LowersRank, ReachesRank, fixed_at, place}
use Rattle.value_list_laws.proofs.examples.fixed_symbols_at_examples.Goals as goal

above_zero : suc zero ≡ zero → ⊥
above_zero q = omega (arith, q)

never-keeps : KeepsRank 65521 minus_model (fixed_at 0 0 1 minus_model) → ⊥
never-keeps keeps = go (with-keeps 65521 minus_model (place 0 0) (always 1) keeps)
  where
    go : (w : ℕ → ℕ → ℕ) × HaveNumbersAt 65521 minus_model (place 0 0) (always 1) w × ReachesRank 65521 minus_model w → ⊥
    go (w, has, reaches) = one-fails w (has 0 0 only-here refl) reaches

two-keeps : KeepsRank 65521 minus_model (fixed_at 0 0 2 minus_model)
two-keeps = keeps-with 65521 minus_model (place 0 0) (always 2) (always 2) (λ _ _ _ _. refl) two-reaches

pub returns-clause-holds_place : goal.returns-clause-holds_place
returns-clause-holds_place c = only-here

pub returns-clause-fails_place : goal.returns-clause-fails_place
returns-clause-fails_place c (il, _, _) = omega (arith, il)

pub returns-clause-holds_numbers : goal.returns-clause-holds_numbers
returns-clause-holds_numbers c i j at h = refl

pub returns-clause-fails_numbers : goal.returns-clause-fails_numbers
returns-clause-fails_numbers c has = clash 1 refl (has 0 0 only-here refl)
  where
    clash : (x : ℕ) → x ≡ 1 → x ≡ 2 → ⊥
    clash x a b = omega arith

pub returns-clause-holds_reaches : goal.returns-clause-holds_reaches
returns-clause-holds_reaches c = two-reaches

pub returns-clause-fails_reaches : goal.returns-clause-fails_reaches
returns-clause-fails_reaches c reaches = one-fails (always 1) refl reaches

pub returns-clause-holds_keeps : goal.returns-clause-holds_keeps
returns-clause-holds_keeps c = two-keeps

pub returns-clause-fails_keeps : goal.returns-clause-fails_keeps
returns-clause-fails_keeps c = never-keeps

pub returns-clause-holds_lowers : goal.returns-clause-holds_lowers
returns-clause-holds_lowers c = go (mixed-rank_exists 65521 prime_65521 (fixed_at 0 0 1 minus_model))
  where
    go : (s : ℕ) × IsStructuralRank 65521 (fixed_at 0 0 1 minus_model) s → LowersRank 65521 minus_model (fixed_at 0 0 1 minus_model)
    go (s, S) = elim (takes-one 65521 minus_model prime_65521 0 0 only-here 1 1 s model-rank S) [
      | inl q ↦ absurd (never-keeps (1, model-rank, subst (λ k. IsStructuralRank 65521 (fixed_at 0 0 1 minus_model) k) q S))
      | inr q ↦ (1, s, model-rank, S, omega (arith, q))
    ]

pub returns-clause-fails_lowers : goal.returns-clause-fails_lowers
returns-clause-fails_lowers c (r, s, R, S, less) = go two-keeps
  where
    go : KeepsRank 65521 minus_model (fixed_at 0 0 2 minus_model) → ⊥
    go (t, T, F) = omega (
      arith,
      less,
      greatest-unique 65521 1 1 (value minus_model) r t R T,
      greatest-unique 65521 1 1 (value (fixed_at 0 0 2 minus_model)) s t S F,
    )

pub returns-clause-holds_with : goal.returns-clause-holds_with
returns-clause-holds_with c = record { reached = (always 2, (λ _ _ _ _. refl), entry-rank); greatest = λ v s _ S. model-rank.greatest v s S }

pub returns-clause-fails_with : goal.returns-clause-fails_with
returns-clause-fails_with c W = one-fails W.reached.0 (W.reached.1 0 0 only-here refl) (1, model-rank, W.reached.2)

pub returns-clause-holds_puts : goal.returns-clause-holds_puts
returns-clause-holds_puts c = record {
  rows = refl;
  columns = refl;
  constant = refl;
  symbol = refl;
  other_constants = λ k l h. ap (λ b. (65520 + cond (b && true) 2 0) % 65521) h;
  other_symbols = λ k l h. ap (λ b. true && not b) h;
}

pub returns-clause-fails_puts : goal.returns-clause-fails_puts
returns-clause-fails_puts c P = differ P.symbol refl
