-- Facts of the worked example: three equations of one unknown, each with the constant 1.
use Rattle.std.proofs.Common.{◌≡◌, ℕ, zero, suc, ◌*◌, ◌%◌, ◌<◌, ◌≤◌, ◌≢◌, ◌↔◌, Bool, true, false, not, eqb, ltb, inl}
use Rattle.std.proofs.Common.{inr, refl, ap, sym, subst, ◌∙◌, arith}
use Rattle.std.proofs.lemmas.Bool.Decides.{nat_tests}
use Rattle.residue_theory.proofs.CountLaws.{size-everything, size-positive, size-zero}
use Rattle.residue_theory.proofs.Primes.{prime_65521}
use Rattle.residue_theory.proofs.ResidueLaws.{sum-one}
use Rattle.residue_theory.proofs.SetLaws.{both_true, differ, eqb_from, eqb_true, not_true, with_one-member}
use Rattle.residue_theory.proofs.SetLaws.{with_one-new}
use Rattle.residue_theory.proofs.SumLaws.{member-without, size-none, sum_on-without}
use Rattle.residue_theory.specs.Sets.{both, everything, only, with_one, without}
use Rattle.residue_theory.specs.Sums.{size_on}
use Rattle.linear_algebra_laws.proofs.RankLaws.{independent-rows}
use Rattle.equation_matroid_laws.proofs.ConflictSets.{circuit}
use Rattle.equation_matroid_laws.proofs.Costs.{cost-line, number-line}
use Rattle.equation_matroid_laws.proofs.Repairs.{choice-unique, kept-independent, level-reached, levels-cheapest}
use Rattle.equation_matroid_laws.proofs.Repairs.{tells-choice}
use Rattle.equation_matroid_laws.proofs.RowRanks.{Free, free-independent, free-within, independent-free, largest-rank}
use Rattle.equation_matroid_laws.proofs.RowRanks.{rank_unique-of, rows_at}
use Rattle.equation_matroid_laws.specs.Conflicts.{IsCircuitOf, IsConflictSet, IsInCircuit, IsSurplusAmong}
use Rattle.equation_matroid_laws.specs.EquationRanks.{AreIndependent, IsRankOf}
use Rattle.equation_matroid_laws.specs.Examples.{first_and_last, rising, three_model}
use Rattle.equation_matroid_laws.specs.GreedyChoices.{IsCheapestRepair, IsGreedyChoice, IsIndependentChoice, by_cost}
use Rattle.equation_matroid_laws.specs.GreedyChoices.{by_number, earlier, outside}

abbrev F : (ℕ → Bool) → Type 0
F = Free 65521 prime_65521 three_model

pub below_three : (P : ℕ → Type 0) → P 0 → P 1 → P 2 → (j : ℕ) → j < 3 → P j
below_three P a b c zero l = a
below_three P a b c (suc zero) l = b
below_three P a b c (suc (suc zero)) l = c
below_three P a b c (suc (suc (suc j))) l = absurd (omega arith)

-- one equation is independent
one-free : (k : ℕ) → k < 3 → F (only k)
one-free k kl = (
  (λ _ _. 0),
  λ c z j jl jh. subst (λ i. c i % 65521 ≡ 0) (sym (eqb_true j k jh))
      (ap (λ y. y % 65521) (let q : c k ≡ c k * 1 = omega arith in q)
      ∙ sym (sum-one 65521 (only k) 3 k (λ i. c i * 1) kl (eqb_from k k refl) (λ i il ih ne. absurd (ne (eqb_true i k ih))))
      ∙ z 0 (omega arith)),
)

-- and no two are
pub at_most_one : (X : ℕ → Bool) → F X → size_on X 3 ≤ 1
at_most_one X (v, ind) = omega (
  arith,
  size-everything 1,
  independent-rows 65521 prime_65521 (rows_at 65521 prime_65521 three_model v) 1 3 everything X
      (λ i j _ _ h. absurd (never h)) ind,
)
  where
    never : true ≡ false → ⊥
    never h = cc

pub two-tied : (X : ℕ → Bool) (j k : ℕ) → j < 3 → k < 3 → j ≢ k → X j ≡ true → X k ≡ true → F X → ⊥
two-tied X j k jl kl ne jh kh free = omega (
  arith,
  at_most_one X free,
  size-positive (without X k) 3 j jl (member-without X k j jh ne),
  sum_on-without X 3 k (λ _. 1) kl kh,
)

-- so a set with a member has rank 1, and one without has rank 0
pub some-rank : (X : ℕ → Bool) (k : ℕ) → k < 3 → X k ≡ true → IsRankOf 65521 three_model X 1
some-rank X k kl kh = largest-rank 65521 prime_65521 three_model X 1 (record {
  reached = (
    only k,
    (λ j _ h. subst (λ i. X i ≡ true) (sym (eqb_true j k h)) kh),
    one-free k kl,
    one (size_on (only k) 3)
        (at_most_one (only k) (one-free k kl)) (size-positive (only k) 3 k kl (eqb_from k k refl)),
  );
  greatest = λ Y _ free. at_most_one Y free;
})
  where
    one : (s : ℕ) → s ≤ 1 → 0 < s → s ≡ 1
    one s a b = omega arith

pub no-rank : (X : ℕ → Bool) → ((j : ℕ) → j < 3 → X j ≡ false) → IsRankOf 65521 three_model X 0
no-rank X none = largest-rank 65521 prime_65521 three_model X 0 (record {
  reached = (
    (λ _. false),
    (λ j _ h. absurd (differ refl h)),
    free-within 65521 prime_65521 three_model (λ _. false) (only 0)
        (λ j _ h. absurd (differ refl h)) (one-free 0 (omega arith)),
    size-none 3,
  );
  greatest = λ Y within _. omega (arith, size-zero Y 3 (λ j l. not_true (Y j) (λ h. differ (none j l) (within j l h))));
})

pub same-rank : (X : ℕ → Bool) (r s : ℕ) → IsRankOf 65521 three_model X r → IsRankOf 65521 three_model X s → r ≡ s
same-rank X r s R S = rank_unique-of 65521 prime_65521 three_model X r s R S

pub one-independent : (k : ℕ) → k < 3 → AreIndependent 65521 three_model (only k)
one-independent k kl = free-independent 65521 prime_65521 three_model (only k) (one-free k kl)

pub two-dependent : (X : ℕ → Bool) (j k : ℕ) → j < 3 → k < 3 → j ≢ k → X j ≡ true → X k ≡ true → AreIndependent 65521 three_model X → ⊥
two-dependent X j k jl kl ne jh kh ind = two-tied X j k jl kl ne jh kh (independent-free 65521 prime_65521 three_model X ind)

-- ---- choices
-- the first of all along a line is the choice
first-chosen : (before : ℕ → ℕ → Bool) (k : ℕ) → k < 3 → ((e : ℕ) → e < 3 → eqb e k ≡ false → before k e ≡ true) →
    IsIndependentChoice 65521 three_model before everything (only k)
first-chosen before k kl first = record {
  independent = one-independent k kl;
  passed_over = λ e el _ out ind. two-dependent (with_one (both (only k) (earlier before everything e)) e) k e kl el
      (λ q. differ out (eqb_from e k (sym q)))
      (with_one-member (both (only k) (earlier before everything e)) e k (both_true (eqb k k) (before k e) (eqb_from k k refl) (first e el out)))
      (with_one-new (both (only k) (earlier before everything e)) e) ind;
}

pub number-independent : IsIndependentChoice 65521 three_model by_number everything (only 0)
number-independent = first-chosen by_number 0 (omega arith) (λ e _ out. at e out)
  where
    at : (e : ℕ) → eqb e 0 ≡ false → ltb 0 e ≡ true
    at e h = grind (arith, nat_tests)

pub number-chosen : IsGreedyChoice 65521 three_model by_number everything (only 0)
number-chosen = tells-choice 65521 prime_65521 three_model (omega arith) by_number number-line everything (only 0) (λ _ _ _. refl) number-independent

pub cost-chosen : IsGreedyChoice 65521 three_model (by_cost rising) everything (only 2)
cost-chosen = tells-choice 65521 prime_65521 three_model (omega arith) (by_cost rising) (cost-line rising) everything (only 2) (λ _ _ _. refl)
    (first-chosen (by_cost rising) 2 (omega arith) (below_three (λ e. eqb e 2 ≡ false → by_cost rising 2 e ≡ true)
    (λ _. refl) (λ _. refl) (λ h. absurd (differ h refl))))

pub only-choice : (before : ℕ → ℕ → Bool) (K L : ℕ → Bool) → IsGreedyChoice 65521 three_model before everything K →
    IsGreedyChoice 65521 three_model before everything L → (e : ℕ) → e < 3 → K e ≡ L e
only-choice before K L first second e el = choice-unique 65521 prime_65521 three_model before everything K L first second e el

pub cost-cheapest : IsCheapestRepair 65521 three_model rising (outside (only 2))
cost-cheapest = levels-cheapest 65521 prime_65521 three_model (omega arith) rising (only 2)
    (kept-independent 65521 prime_65521 three_model (omega arith) rising (only 2) cost-chosen)
    (λ e _ _. level-reached 65521 prime_65521 three_model (omega arith) rising (only 2) cost-chosen e)

pub kept_zero-repair : AreIndependent 65521 three_model (outside (outside (only 0)))
kept_zero-repair = free-independent 65521 prime_65521 three_model (outside (outside (only 0)))
    (free-within 65521 prime_65521 three_model (outside (outside (only 0))) (only 0) (λ j _ h. twice (eqb j 0) h) (one-free 0 (omega arith)))
  where
    twice : (b : Bool) → not (not b) ≡ true → b ≡ true
    twice true h = refl
    twice false h = h

-- equation 0 may be chosen before equation 1
pub one-apart : AreIndependent 65521 three_model (with_one (both (only 1) (earlier by_number everything 0)) 0)
one-apart = free-independent 65521 prime_65521 three_model (with_one (both (only 1) (earlier by_number everything 0)) 0)
    (free-within 65521 prime_65521 three_model (with_one (both (only 1) (earlier by_number everything 0)) 0) (only 0)
    (below_three (λ j. with_one (both (only 1) (earlier by_number everything 0)) 0 j ≡ true → only 0 j ≡ true) (λ h. h) (λ h. h) (λ h. h))
    (one-free 0 (omega arith)))

-- ---- conflicts
pub last-surplus : IsSurplusAmong 65521 three_model everything 2
last-surplus = (1, some-rank everything 0 (omega arith) refl, some-rank (without everything 2) 0 (omega arith) refl)

rest-chosen : IsGreedyChoice 65521 three_model by_number (without everything 2) (only 0)
rest-chosen = tells-choice 65521 prime_65521 three_model (omega arith) by_number number-line (without everything 2) (only 0)
    (below_three (λ j. only 0 j ≡ true → without everything 2 j ≡ true) (λ _. refl) (λ _. refl) (λ h. h)) (record {
      independent = one-independent 0 (omega arith);
      passed_over = below_three
          (λ e. without everything 2 e ≡ true → only 0 e ≡ false →
          AreIndependent 65521 three_model (with_one (both (only 0) (earlier by_number (without everything 2) e)) e) → ⊥)
          (λ _ out _. differ out refl)
          (λ _ _. two-dependent (with_one (both (only 0) (earlier by_number (without everything 2) 1)) 1) 0 1 (omega arith) (omega arith) (omega arith)
          refl refl)
          (λ h _ _. differ refl h);
    })

pub zero-member : IsInCircuit 65521 three_model (only 0) 2 0
zero-member = inr (
  refl,
  free-independent 65521 prime_65521 three_model (with_one (without (only 0) 0) 2)
      (free-within 65521 prime_65521 three_model (with_one (without (only 0) 0) 2) (only 2)
      (below_three (λ j. with_one (without (only 0) 0) 2 j ≡ true → only 2 j ≡ true) (λ h. h) (λ h. h) (λ h. h)) (one-free 2 (omega arith))),
)

pub one-no_member : IsInCircuit 65521 three_model (only 0) 2 1 → ⊥
one-no_member (inl q) = clash 1 refl q
  where
    clash : (x : ℕ) → x ≡ 1 → x ≡ 2 → ⊥
    clash x a b = omega arith
one-no_member (inr m) = differ refl m.0

pub ends-circuit : IsCircuitOf 65521 three_model (only 0) 2 first_and_last
ends-circuit = below_three (λ x. (first_and_last x ≡ true) ↔ IsInCircuit 65521 three_model (only 0) 2 x)
    ((λ _. zero-member), (λ _. refl)) ((λ h. absurd (differ refl h)), λ m. absurd (one-no_member m)) ((λ _. inl refl), λ _. refl)

pub conflict-tells : (C : ℕ → Bool) → IsConflictSet 65521 three_model 2 C ↔ IsCircuitOf 65521 three_model (only 0) 2 C
conflict-tells C = circuit 65521 prime_65521 three_model (omega arith) 2 (omega arith) last-surplus (only 0) C rest-chosen
