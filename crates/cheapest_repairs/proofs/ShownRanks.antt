-- The forms of a repair show the ranks that its rules ask for, where it keeps the greedy choice by falling cost.
use Rattle.std.proofs.Common.{◌≡◌, ℕ, ◌%◌, ◌<◌, Bool, true, cond, ◌&&◌, List, length, get_or, refl, ap, sym, subst, ◌∙◌, arith}
use Rattle.std.specs.List.{All}
use Rattle.residue_theory.specs.Residues.{IsPrime}
use Rattle.residue_theory.specs.Sets.{both, everything, has}
use Rattle.residue_theory.specs.Sums.{size_on}
use Rattle.mixed_matrices.specs.Models.{MixedMatrix}
use Rattle.mixed_matrices.specs.Removals.{mixed_part}
use Rattle.mixed_pair_laws.proofs.SameEntries.{same-model}
use Rattle.mixed_model.specs.Models.{MixedModel, mixed_matrix_of}
use Rattle.cert_text.specs.Contents.{Contents}
use Rattle.cert_text.specs.Ranges.{AreRising}
use Rattle.cert_checker.specs.Answers.{IsRightFor}
use Rattle.certificate_laws.proofs.RisingLists.{members-counted}
use Rattle.equation_matroid_laws.proofs.Repairs.{kept-independent, level-reached}
use Rattle.equation_matroid_laws.proofs.RowRanks.{rank_unique-of}
use Rattle.equation_matroid_laws.specs.EquationRanks.{IsRankOf}
use Rattle.equation_matroid_laws.specs.GreedyChoices.{IsGreedyChoice, by_cost, costing}
use Rattle.restricted_models.proofs.Ranks.{ranks-to}
use Rattle.restricted_models.specs.Restrictions.{restricted}
use Rattle.repair_checker.specs.Costs.{AreLevels, all_costing, costing_of}
use Rattle.repair_checker.specs.Rules.{KeepsRepairRules, ShowsRank, cost_of_others, level_costs}
use Rattle.repair_checker.specs.declared.repair.Level.{Level}
use Rattle.repair_checker.specs.declared.repair.Repair.{Repair}
use Rattle.repair_checker.proofs.CostLists.{all-has, all-rising, costing-counted}

-- R of sets with the same equations is one
same-set : (p : ℕ) (M : MixedMatrix) (X Y : ℕ → Bool) → ((i : ℕ) → i < M.rows → X i ≡ Y i) → (r : ℕ) → IsRankOf p M X r → IsRankOf p M Y r
same-set p M X Y same r R = same-model p (mixed_part X everything M) (mixed_part Y everything M) (record {
  rows = refl;
  columns = refl;
  constants = λ i j il _. ap (λ b. cond (b && true) (M.constant i j) 0 % p) (same i il);
  symbols = λ i j il _. ap (λ b. b && true && M.symbol i j) (same i il);
}) r R

module _ (p : ℕ) (prime : IsPrime p) (big : 2 < p) (model : MixedModel) (costs kept : List ℕ)
    (count : length costs ≡ length model.equations) (rising : AreRising (length model.equations) kept)
    (choice : IsGreedyChoice p (mixed_matrix_of model) (by_cost (λ e. get_or costs e 0)) everything (has kept)) where
  abbrev M : MixedMatrix
  M = mixed_matrix_of model

  abbrev cost : ℕ → ℕ
  cost e = get_or costs e 0

  -- a right form of some equations shows their rank
  shown : (list : List ℕ) → AreRising (length model.equations) list → (ccf : Contents) (rank : ℕ) →
      IsRightFor p (mixed_matrix_of (restricted model list)) ccf → IsRankOf p M (has list) rank → ShowsRank p model list ccf rank
  shown list are ccf rank right R = record {
    right = right;
    rank_is = rank_unique-of p prime M (has list) ccf.rank rank
        (ranks-to p model list are ccf.rank (right.each right.layered right.origins right.layers).pair_and_rank.rank) R;
  }

  kept-shown : (ccf : Contents) → IsRightFor p (mixed_matrix_of (restricted model kept)) ccf → ShowsRank p model kept ccf (length kept)
  kept-shown ccf right = shown kept rising ccf (length kept) right
      (subst (IsRankOf p M (has kept)) (members-counted (length model.equations) kept rising) (kept-independent p prime M big cost (has kept) choice))

  -- of the equations that cost so much as many are kept as their rank is
  level-shown : (least : ℕ) (ccf : Contents) → IsRightFor p (mixed_matrix_of (restricted model (all_costing costs least))) ccf →
      ShowsRank p model (all_costing costs least) ccf (length (costing_of costs least kept))
  level-shown least ccf right = shown (all_costing costs least) (subst (λ n. AreRising n (all_costing costs least)) count (all-rising costs least))
      ccf (length (costing_of costs least kept)) right of_all
    where
      counted : size_on (both (has kept) (costing cost least)) (length model.equations) ≡ length (costing_of costs least kept)
      counted = sym (costing-counted costs least kept (subst (λ n. AreRising n kept) (sym count) rising)
          ∙ ap (size_on (both (has kept) (costing cost least))) count)

      of_all : IsRankOf p M (has (all_costing costs least)) (length (costing_of costs least kept))
      of_all = same-set p M (costing cost least) (has (all_costing costs least)) (λ i il. sym (all-has costs least i (omega (arith, il, count))))
          (length (costing_of costs least kept))
          (subst (IsRankOf p M (costing cost least)) counted (level-reached p prime M big cost (has kept) choice least))

  -- so a repair with right forms keeps the rules
  pub keeps-rules : {F : Type 0} (repair : Repair F) → repair.kept ≡ kept → AreLevels costs (level_costs repair.levels) →
      All (λ (level : Level F). IsRightFor p (mixed_matrix_of (restricted model (all_costing costs level.cost))) level.ccf) repair.levels →
      IsRightFor p (mixed_matrix_of (restricted model kept)) repair.kept_ccf → repair.cost ≡ cost_of_others costs kept →
      KeepsRepairRules p model costs repair
  keeps-rules {F} repair is levels forms right sum = record {
    levels = levels;
    independent = subst (λ list. ShowsRank p model list repair.kept_ccf (length list)) (sym is) (kept-shown repair.kept_ccf right);
    reaches = λ k d kl. let level = get_or repair.levels k d in
        subst (λ list. ShowsRank p model (all_costing costs level.cost) level.ccf (length (costing_of costs level.cost list))) (sym is)
        (level-shown level.cost level.ccf (forms k d kl));
    cost = sum ∙ ap (cost_of_others costs) (sym is);
  }
