-- Witnesses: numbers that reach the rank and begin as the first list tell of the next place.
use Rattle.std.proofs.Common.{◌≡◌, ℕ, ◌%◌, ◌<◌, Bool, true, false, inl, inr, refl, ap, sym, subst, ◌∙◌, arith}
use Rattle.residue_theory.specs.Residues.{IsPrime}
use Rattle.linear_algebra.specs.Parts.{with_entry}
use Rattle.linear_algebra_laws.proofs.Entries.{with_entry-there}
use Rattle.mixed_matrices.specs.Models.{MixedMatrix}
use Rattle.mixed_layering_laws.specs.LayeredValues.{IsOneOrTwo}
use Rattle.value_list_laws.proofs.FixedRanks.{reaches-one_or_two, with_entry-else}
use Rattle.value_list_laws.proofs.Lists.{first-greedy, next-from, not_place}
use Rattle.value_list_laws.proofs.Places.{before-trans, each_place}
use Rattle.value_list_laws.specs.FixedSymbols.{HaveNumbersAt, IsSymbolPlace, KeepsRank, ReachesRank}
use Rattle.value_list_laws.specs.ValueLists.{IsFirstList, IsGreedyList, before, with_one_next}

module _ (p : ℕ) (prime : IsPrime p) (M : MixedMatrix) (v : ℕ → ℕ → ℕ) (V : IsFirstList p M v) where
  greedy : IsGreedyList p M v
  greedy = first-greedy p prime M v V

  is_one : (i j : ℕ) → IsSymbolPlace M i j → KeepsRank p M (with_one_next M v i j) → v i j ≡ 1
  is_one i j here = (greedy.one i j here).1

  pub ones : (i j : ℕ) → IsSymbolPlace M i j → (w : ℕ → ℕ → ℕ) → HaveNumbersAt p M (before i j) v w → ReachesRank p M w → w i j % p ≡ 1 % p → v i j ≡ 1
  ones i j here w has reaches one = is_one i j here (next-from p prime M v w i j one has reaches)

  -- a change at (i, j) leaves the places before
  pub changed-has : (i j x : ℕ) (w : ℕ → ℕ → ℕ) → HaveNumbersAt p M (before i j) v w → HaveNumbersAt p M (before i j) v (with_entry w i j x)
  changed-has i j x w has k l at h = ap (λ y. y % p) (with_entry-else w i j x k l (not_place i j k l h)) ∙ has k l at h

  pub changed-ones : (i j : ℕ) → IsSymbolPlace M i j → (w : ℕ → ℕ → ℕ) → HaveNumbersAt p M (before i j) v w →
      ReachesRank p M (with_entry w i j 1) → v i j ≡ 1
  changed-ones i j here w has reaches = ones i j here (with_entry w i j 1) (changed-has i j 1 w has) reaches (ap (λ y. y % p) (with_entry-there w i j 1))

  pub runs : (i j k l : ℕ) (w : ℕ → ℕ → ℕ) → HaveNumbersAt p M (before i j) v w → ReachesRank p M w →
      ((a b : ℕ) → IsSymbolPlace M a b → before i j a b ≡ false → before k l a b ≡ true → w a b % p ≡ 1 % p) →
      (a b : ℕ) → IsSymbolPlace M a b → before i j a b ≡ false → before k l a b ≡ true → v a b ≡ 1
  runs i j k l w has reaches run a b at =
      each_place M.rows M.columns (λ a b. M.symbol a b ≡ true → before i j a b ≡ false → before k l a b ≡ true → v a b ≡ 1) step a b at.0 at.1 at.2
    where
      step : (a b : ℕ) → a < M.rows → b < M.columns →
          ((c d : ℕ) → c < M.rows → d < M.columns → before a b c d ≡ true → M.symbol c d ≡ true → before i j c d ≡ false →
          before k l c d ≡ true → v c d ≡ 1) → M.symbol a b ≡ true → before i j a b ≡ false → before k l a b ≡ true → v a b ≡ 1
      step a b al bl ih s out within = ones a b (al, bl, s) w known reaches (run a b (al, bl, s) out within)
        where
          known : HaveNumbersAt p M (before a b) v w
          known c d there h = at_place (before i j c d) refl
            where
              at_place : (q : Bool) → before i j c d ≡ q → w c d % p ≡ v c d % p
              at_place true e = has c d there e
              at_place false e = run c d there e (before-trans k l a b c d within h)
                  ∙ ap (λ y. y % p) (sym (ih c d there.0 there.1 h there.2 e (before-trans k l a b c d within h)))

  pub go_on : (i j : ℕ) → IsSymbolPlace M i j → v i j ≡ 2 → (w : ℕ → ℕ → ℕ) → HaveNumbersAt p M (before i j) v w → ReachesRank p M w →
      ReachesRank p M (with_entry w i j 2)
  go_on i j here two w has reaches = go (reaches-one_or_two p M prime i j here w reaches)
    where
      apart : (y : ℕ) → y ≡ 1 → y ≡ 2 → ⊥
      apart y a b = omega arith

      go : (x : ℕ) × IsOneOrTwo x × ReachesRank p M (with_entry w i j x) → ReachesRank p M (with_entry w i j 2)
      go (x, small, reached) = elim small [
        | inl e ↦ absurd (apart (v i j) (changed-ones i j here w has (subst (λ y. ReachesRank p M (with_entry w i j y)) e reached)) two)
        | inr e ↦ subst (λ y. ReachesRank p M (with_entry w i j y)) e reached
      ]
