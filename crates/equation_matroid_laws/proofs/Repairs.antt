-- Greedy choices and repairs of a model, by the matroid of its equations.
use Rattle.std.proofs.Common.{◌≡◌, ℕ, ◌<◌, ◌≤◌, Bool, true, false, ◌&&◌, not, ltb, inl, inr, refl, ap, sym, subst, ◌∙◌}
use Rattle.std.proofs.Common.{arith}
use Rattle.std.proofs.lemmas.Bool.Decides.{nat_tests}
use Rattle.residue_theory.proofs.SetLaws.{both_true, both-first, both-second, differ, not_true, with_one-member}
use Rattle.residue_theory.proofs.SetLaws.{with_one-other}
use Rattle.residue_theory.proofs.SumLaws.{nat_cases, sum_on-same}
use Rattle.residue_theory.specs.Residues.{IsPrime}
use Rattle.residue_theory.specs.Sets.{IsWithin, both, everything, with_one}
use Rattle.residue_theory.specs.Sums.{size_on, sum_on}
use Rattle.mixed_matrices.specs.Models.{MixedMatrix}
use Rattle.equation_matroid_laws.proofs.Costs.{before-costs, cost-line, levels-enough, levels-sum, outside-sum}
use Rattle.equation_matroid_laws.proofs.Greedy.{Choice, choice-free, passed-over, prefix-reached}
use Rattle.equation_matroid_laws.proofs.Matroids.{IsLargest, grown-within, size-grown, spanning-largest, within-grown}
use Rattle.equation_matroid_laws.proofs.RowRanks.{Free, equations, free-independent, free-within, independent-free}
use Rattle.equation_matroid_laws.proofs.RowRanks.{largest-rank, rank-largest, rank_exists-of, rank_unique-of}
use Rattle.equation_matroid_laws.specs.EquationRanks.{AreIndependent, IsRankOf}
use Rattle.equation_matroid_laws.specs.GreedyChoices.{IsCheapestRepair, IsGreedyChoice, IsIndependentChoice, IsLine}
use Rattle.equation_matroid_laws.specs.GreedyChoices.{IsPrefix, by_cost, costing, earlier, outside}

module _ (p : ℕ) (prime : IsPrime p) (M : MixedMatrix) where
  pub to_choice : (before : ℕ → ℕ → Bool) (X K : ℕ → Bool) → IsGreedyChoice p M before X K → Choice M.rows (Free p prime M) before X K
  to_choice before X K choice = record { inside = choice.inside; kept = λ e l h. told e (choice.kept e l h) }
    where
      told : (e : ℕ) → (r s : ℕ) × IsRankOf p M (earlier before X e) r × IsRankOf p M (with_one (earlier before X e) e) s × (K e ≡ ltb r s) →
          (r s : ℕ) × IsLargest M.rows (Free p prime M) (earlier before X e) r
          × IsLargest M.rows (Free p prime M) (with_one (earlier before X e) e) s × (K e ≡ ltb r s)
      told e (r, s, R, S, q) = (r, s, rank-largest p prime M (earlier before X e) r R, rank-largest p prime M (with_one (earlier before X e) e) s S, q)

  -- ---- there is a greedy choice, and only one
  pub choice-unique : (before : ℕ → ℕ → Bool) (X L K : ℕ → Bool) → IsGreedyChoice p M before X L → IsGreedyChoice p M before X K →
      (e : ℕ) → e < M.rows → L e ≡ K e
  choice-unique before X L K first second e el = at (X e) refl
    where
      out : (C : ℕ → Bool) → IsWithin M.rows C X → X e ≡ false → C e ≡ false
      out C inside h = not_true (C e) (λ k. differ h (inside e el k))

      same : X e ≡ true → L e ≡ K e
      same h = go (first.kept e el h) (second.kept e el h)
        where
          go : (r s : ℕ) × IsRankOf p M (earlier before X e) r × IsRankOf p M (with_one (earlier before X e) e) s × (L e ≡ ltb r s) →
              (r s : ℕ) × IsRankOf p M (earlier before X e) r × IsRankOf p M (with_one (earlier before X e) e) s × (K e ≡ ltb r s) → L e ≡ K e
          go (r, s, R, S, q) (t, u, V, W, k) = q ∙ ap (λ i. ltb i s) (rank_unique-of p prime M (earlier before X e) r t R V)
              ∙ ap (λ i. ltb t i) (rank_unique-of p prime M (with_one (earlier before X e) e) s u S W) ∙ sym k

      at : (b : Bool) → X e ≡ b → L e ≡ K e
      at true h = same h
      at false h = out L first.inside h ∙ sym (out K second.inside h)

  module _ (before : ℕ → ℕ → Bool) (X : ℕ → Bool) where
    chosen : ℕ → Bool
    chosen e = X e && ltb (rank_exists-of p prime M (earlier before X e)).0 (rank_exists-of p prime M (with_one (earlier before X e) e)).0

    chosen-true : (e : ℕ) → X e ≡ true → chosen e ≡ ltb (rank_exists-of p prime M (earlier before X e)).0
        (rank_exists-of p prime M (with_one (earlier before X e) e)).0
    unfolding chosen
    chosen-true e h = at (X e) (ltb (rank_exists-of p prime M (earlier before X e)).0 (rank_exists-of p prime M (with_one (earlier before X e) e)).0) h
      where
        at : (b c : Bool) → b ≡ true → b && c ≡ c
        at b c h = grind arith

    chosen-inside : (e : ℕ) → chosen e ≡ true → X e ≡ true
    unfolding chosen
    chosen-inside e h =
        both-first (X e) (ltb (rank_exists-of p prime M (earlier before X e)).0 (rank_exists-of p prime M (with_one (earlier before X e) e)).0) h

    pub choice_exists : (K : ℕ → Bool) × IsGreedyChoice p M before X K
    choice_exists = (
      chosen,
      record {
        inside = λ e _ h. chosen-inside e h;
        kept = λ e _ h. (
          (rank_exists-of p prime M (earlier before X e)).0,
          (rank_exists-of p prime M (with_one (earlier before X e) e)).0,
          (rank_exists-of p prime M (earlier before X e)).1,
          (rank_exists-of p prime M (with_one (earlier before X e) e)).1,
          chosen-true e h,
        );
      },
    )

  module _ (big : 2 < p) where
    -- ---- a greedy choice is independent, and no other equation may join what is kept before it
    module _ (before : ℕ → ℕ → Bool) (line : IsLine before) (X K : ℕ → Bool) (inside : IsWithin M.rows K X) where
      pub choice-tells : IsGreedyChoice p M before X K → IsIndependentChoice p M before X K
      choice-tells choice = record {
        independent = free-independent p prime M K
            (choice-free before line M.rows (Free p prime M) (equations p prime M big) X K (to_choice before X K choice));
        passed_over = λ e el xe out ind. passed-over before line M.rows (Free p prime M) (equations p prime M big) X K (to_choice before X K choice)
            e el xe out (independent-free p prime M (with_one (both K (earlier before X e)) e) ind);
      }

      pub tells-choice : IsIndependentChoice p M before X K → IsGreedyChoice p M before X K
      tells-choice told = record { inside = inside; kept = λ e el xe. at e el xe (K e) refl (rank_exists-of p prime M (with_one (earlier before X e) e)) }
        where
          passed : (y : ℕ) → y < M.rows → X y ≡ true → K y ≡ false → Free p prime M (with_one (both K (earlier before X y)) y) → ⊥
          passed y yl xy out free = told.passed_over y yl xy out (free-independent p prime M (with_one (both K (earlier before X y)) y) free)

          free_before : (e : ℕ) → Free p prime M (both K (earlier before X e))
          free_before e = free-within p prime M (both K (earlier before X e)) K (λ j _ h. both-first (K j) (earlier before X e j) h)
              (independent-free p prime M K told.independent)

          -- of those before e none but the kept ones may join
          spans : (e : ℕ) → e < M.rows → (y : ℕ) → y < M.rows → earlier before X e y ≡ true → both K (earlier before X e) y ≡ false →
              Free p prime M (with_one (both K (earlier before X e)) y) → ⊥
          spans e el y yl ye yout free = passed y yl (both-first (X y) (before y e) ye)
              (not_true (K y) (λ h. differ yout (both_true (K y) (earlier before X e y) h ye)))
              (free-within p prime M (with_one (both K (earlier before X y)) y) (with_one (both K (earlier before X e)) y)
              (grown-within M.rows (both K (earlier before X y)) (both K (earlier before X e)) y (λ j _ h. both_true (K j) (earlier before X e j)
              (both-first (K j) (earlier before X y j) h) (both_true (X j) (before j e)
              (both-first (X j) (before j y) (both-second (K j) (earlier before X y j) h))
              (line.transitive j y e (both-second (X j) (before j y) (both-second (K j) (earlier before X y j) h)) (both-second (X y) (before y e) ye))))) free)

          before_e : (e : ℕ) → e < M.rows → IsLargest M.rows (Free p prime M) (earlier before X e) (size_on (both K (earlier before X e)) M.rows)
          before_e e el = spanning-largest M.rows (Free p prime M) (equations p prime M big) (earlier before X e) (both K (earlier before X e))
              (λ j _ h. both-second (K j) (earlier before X e j) h) (free_before e) (spans e el)

          e_out : (e : ℕ) → both K (earlier before X e) e ≡ false
          e_out e = not_true (both K (earlier before X e) e)
              (λ h. differ (line.irreflexive e) (both-second (X e) (before e e) (both-second (K e) (earlier before X e e) h)))

          at : (e : ℕ) → e < M.rows → X e ≡ true → (b : Bool) → K e ≡ b → (s : ℕ) × IsRankOf p M (with_one (earlier before X e) e) s →
              (r s : ℕ) × IsRankOf p M (earlier before X e) r × IsRankOf p M (with_one (earlier before X e) e) s × (K e ≡ ltb r s)
          at e el xe true h (s, S) = (
            size_on (both K (earlier before X e)) M.rows,
            s,
            largest-rank p prime M (earlier before X e) (size_on (both K (earlier before X e)) M.rows) (before_e e el),
            S,
            h ∙ sym (is_less (size_on (both K (earlier before X e)) M.rows) s (more (rank-largest p prime M (with_one (earlier before X e) e) s S))),
          )
            where
              more : IsLargest M.rows (Free p prime M) (with_one (earlier before X e) e) s → size_on (both K (earlier before X e)) M.rows < s
              more L = omega (
                arith,
                size-grown M.rows (both K (earlier before X e)) e el (e_out e),
                L.greatest (with_one (both K (earlier before X e)) e)
                    (grown-within M.rows (both K (earlier before X e)) (earlier before X e) e (λ j _ k. both-second (K j) (earlier before X e j) k))
                    (free-within p prime M (with_one (both K (earlier before X e)) e) K
                    (within-grown M.rows (both K (earlier before X e)) K e (λ j _ k. both-first (K j) (earlier before X e j) k) h)
                    (independent-free p prime M K told.independent)),
              )

              is_less : (r s : ℕ) → r < s → ltb r s ≡ true
              is_less r s l = grind (arith, nat_tests)
          at e el xe false h (s, S) = (
            size_on (both K (earlier before X e)) M.rows,
            size_on (both K (earlier before X e)) M.rows,
            largest-rank p prime M (earlier before X e) (size_on (both K (earlier before X e)) M.rows) (before_e e el),
            largest-rank p prime M (with_one (earlier before X e) e) (size_on (both K (earlier before X e)) M.rows)
                (spanning-largest M.rows (Free p prime M) (equations p prime M big) (with_one (earlier before X e) e) (both K (earlier before X e))
                (λ j _ k. with_one-member (earlier before X e) e j (both-second (K j) (earlier before X e j) k)) (free_before e)
                (λ y yl yh yout free. elim (nat_cases y e) [
                  | inl q ↦ passed e el xe h (subst (λ i. Free p prime M (with_one (both K (earlier before X e)) i)) q free)
                  | inr ne ↦ spans e el y yl (with_one-other (earlier before X e) e y yh ne) yout free
                ])),
            h ∙ sym (not_less (size_on (both K (earlier before X e)) M.rows)),
          )
            where
              not_less : (r : ℕ) → ltb r r ≡ false
              not_less r = grind (arith, nat_tests)

    pub choice-reaches : (before : ℕ → ℕ → Bool) → IsLine before → (X K : ℕ → Bool) → IsGreedyChoice p M before X K →
        (P : ℕ → Bool) → IsPrefix M.rows before X P → AreIndependent p M (both K P) × IsRankOf p M P (size_on (both K P) M.rows)
    choice-reaches before line X K choice P start =
        go (prefix-reached before line M.rows (Free p prime M) (equations p prime M big) X K (to_choice before X K choice) P start)
      where
        go : Free p prime M (both K P) × IsLargest M.rows (Free p prime M) P (size_on (both K P) M.rows) →
            AreIndependent p M (both K P) × IsRankOf p M P (size_on (both K P) M.rows)
        go (free, largest) = (free-independent p prime M (both K P) free, largest-rank p prime M P (size_on (both K P) M.rows) largest)

    -- ---- costs
    module _ (cost : ℕ → ℕ) (K : ℕ → Bool) where
      pub levels-cheapest : AreIndependent p M K →
          ((e : ℕ) → e < M.rows → K e ≡ false → IsRankOf p M (costing cost (cost e)) (size_on (both K (costing cost (cost e))) M.rows)) →
          IsCheapestRepair p M cost (outside K)
      levels-cheapest ind levels = record {
        repair = free-independent p prime M (outside (outside K))
            (free-within p prime M (outside (outside K)) K (λ j _ h. twice (K j) h) (independent-free p prime M K ind));
        cheapest = λ E repair. cheaper E (independent-free p prime M (outside E) repair);
      }
        where
          twice : (b : Bool) → not (not b) ≡ true → b ≡ true
          twice true h = refl
          twice false h = h

          cheaper : (E : ℕ → Bool) → Free p prime M (outside E) → sum_on (outside K) M.rows cost ≤ sum_on E M.rows cost
          cheaper E free = omega (
            arith,
            outside-sum K M.rows cost,
            outside-sum E M.rows cost,
            levels-sum M.rows cost (outside E) K (levels-enough M.rows cost (outside E) K at_level),
          )
            where
              at_level : (e : ℕ) → e < M.rows → K e ≡ false →
                  size_on (both (outside E) (costing cost (cost e))) M.rows ≤ size_on (both K (costing cost (cost e))) M.rows
              at_level e l out = go (rank-largest p prime M (costing cost (cost e)) (size_on (both K (costing cost (cost e))) M.rows) (levels e l out))
                where
                  go : IsLargest M.rows (Free p prime M) (costing cost (cost e)) (size_on (both K (costing cost (cost e))) M.rows) →
                      size_on (both (outside E) (costing cost (cost e))) M.rows ≤ size_on (both K (costing cost (cost e))) M.rows
                  go L = L.greatest (both (outside E) (costing cost (cost e))) (λ j _ h. both-second (outside E j) (costing cost (cost e) j) h)
                      (free-within p prime M (both (outside E) (costing cost (cost e))) (outside E)
                      (λ j _ h. both-first (outside E j) (costing cost (cost e) j) h) free)

      module _ (choice : IsGreedyChoice p M (by_cost cost) everything K) where
        level-prefix : (c : ℕ) → IsPrefix M.rows (by_cost cost) everything (costing cost c)
        level-prefix c = record { inside = λ _ _ _. refl; closed = λ d e _ _ _ first h. before-costs cost c d e first h }

        pub level-reached : (c : ℕ) → IsRankOf p M (costing cost c) (size_on (both K (costing cost c)) M.rows)
        level-reached c = (choice-reaches (by_cost cost) (cost-line cost) everything K choice (costing cost c) (level-prefix c)).1

        pub kept-independent : AreIndependent p M K
        kept-independent = free-independent p prime M K (choice-free (by_cost cost) (cost-line cost) M.rows (Free p prime M) (equations p prime M big)
            everything K (to_choice (by_cost cost) everything K choice))

        pub kept-rank : IsRankOf p M everything (size_on K M.rows)
        kept-rank = subst (λ k. IsRankOf p M everything k) (sum_on-same (both K everything) K M.rows (λ _. 1) (λ j _. at (K j)))
            (choice-reaches (by_cost cost) (cost-line cost) everything K choice everything
            (record { inside = λ _ _ _. refl; closed = λ _ _ _ _ _ _ _. refl })).1
          where
            at : (b : Bool) → b && true ≡ b
            at true = refl
            at false = refl
