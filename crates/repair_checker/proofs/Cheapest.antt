-- A repair that keeps the rules shows that no repair costs less, whoever made it.
use Rattle.std.proofs.Common.{◌≡◌, ℕ, suc, ◌%◌, ◌<◌, Bool, true, ◌&&◌, cond, eqb, inl, inr, List, [], ◌∷◌, length, get_or}
use Rattle.std.proofs.Common.{refl, ap, sym, subst, ◌∙◌, arith}
use Rattle.residue_theory.proofs.SetLaws.{differ, either_cases, eqb_true}
use Rattle.residue_theory.specs.Residues.{IsPrime}
use Rattle.residue_theory.specs.Sets.{both, everything, has}
use Rattle.residue_theory.specs.Sums.{size_on}
use Rattle.mixed_matrices.specs.Models.{MixedMatrix}
use Rattle.mixed_matrices.specs.Removals.{mixed_part}
use Rattle.mixed_matrices.specs.StructuralRanks.{IsStructuralRank}
use Rattle.mixed_pair_laws.proofs.SameEntries.{same-model}
use Rattle.mixed_model.specs.Models.{MixedModel, mixed_matrix_of}
use Rattle.cert_text.specs.Contents.{Contents}
use Rattle.cert_text.specs.Ranges.{AreRising}
use Rattle.certificate_laws.proofs.RisingLists.{members-counted}
use Rattle.equation_matroid_laws.proofs.Repairs.{levels-cheapest}
use Rattle.equation_matroid_laws.specs.EquationRanks.{AreIndependent, IsRankOf}
use Rattle.equation_matroid_laws.specs.GreedyChoices.{IsCheapestRepair, costing, outside}
use Rattle.restricted_models.proofs.Ranks.{ranks-to}
use Rattle.restricted_models.specs.Restrictions.{restricted}
use Rattle.repair_checker.specs.Costs.{all_costing, costing_of}
use Rattle.repair_checker.specs.Rules.{KeepsRepairRules, ShowsLevel, ShowsRank, level_costs}
use Rattle.repair_checker.specs.declared.repair.Level.{Level}
use Rattle.repair_checker.specs.declared.repair.Repair.{Repair}
use Rattle.repair_checker.proofs.CostLists.{all-has, all-rising, costing-counted}

-- R of sets with the same equations is one
same-set : (p : ℕ) (M : MixedMatrix) (X Y : ℕ → Bool) → ((i : ℕ) → i < M.rows → X i ≡ Y i) → (r : ℕ) → IsRankOf p M X r → IsRankOf p M Y r
same-set p M X Y same r R = same-model p (mixed_part X everything M) (mixed_part Y everything M) (record {
  rows = refl;
  columns = refl;
  constants = λ i j il _. ap (λ b. cond (b && true) (M.constant i j) 0 % p) (same i il);
  symbols = λ i j il _. ap (λ b. b && true && M.symbol i j) (same i il);
}) r R

-- the level of a cost that is among those of some levels
level-at : {F : Type 0} (levels : List (Level F)) (cost : ℕ) → has (level_costs levels) cost ≡ true →
    (k : ℕ) × (level : Level F) × (k < length levels) × ((d : Level F) → get_or levels k d ≡ level) × (level.cost ≡ cost)
level-at [] cost h = absurd (differ refl h)
level-at (level ∷ levels) cost h = elim (either_cases (eqb level.cost cost) (has (level_costs levels) cost) h) [
  | inl here ↦ (0, level, omega arith, (λ d. refl), eqb_true level.cost cost here)
  | inr later ↦ let at = level-at levels cost later in (suc at.0, at.1, omega (arith, at.2), at.3, at.4)
]

module _ {F : Type 0} (p : ℕ) (prime : IsPrime p) (big : 2 < p) (model : MixedModel) (costs : List ℕ) (repair : Repair F)
    (count : length costs ≡ length model.equations) (kept : AreRising (length model.equations) repair.kept)
    (keeps : KeepsRepairRules p model costs repair) where
  abbrev M : MixedMatrix
  M = mixed_matrix_of model

  abbrev cost : ℕ → ℕ
  cost e = get_or costs e 0

  shown-rank : (list : List ℕ) → AreRising (length model.equations) list → (ccf : Contents) (rank : ℕ) → ShowsRank p model list ccf rank →
      IsRankOf p M (has list) rank
  shown-rank list are ccf rank shown = ranks-to p model list are rank
      (subst (IsStructuralRank p (mixed_matrix_of (restricted model list))) shown.rank_is
      (shown.right.each shown.right.layered shown.right.origins shown.right.layers).pair_and_rank.rank)

  independent : AreIndependent p M (has repair.kept)
  independent = subst (IsRankOf p M (has repair.kept)) (sym (members-counted (length model.equations) repair.kept kept))
      (shown-rank repair.kept kept repair.kept_ccf (length repair.kept) keeps.independent)

  reached : (e : ℕ) → e < length model.equations →
      IsRankOf p M (costing cost (cost e)) (size_on (both (has repair.kept) (costing cost (cost e))) (length model.equations))
  reached e el = at (level-at repair.levels (cost e) (keeps.levels.each e (omega (arith, el, count))))
    where
      at : (k : ℕ) × (level : Level F) × (k < length repair.levels) × ((d : Level F) → get_or repair.levels k d ≡ level) × (level.cost ≡ cost e) →
          IsRankOf p M (costing cost (cost e)) (size_on (both (has repair.kept) (costing cost (cost e))) (length model.equations))
      at (k, level, kl, is, cost_is) = subst (λ c. IsRankOf p M (costing cost c) (size_on (both (has repair.kept) (costing cost c)) (length model.equations)))
          cost_is counted
        where
          shown : ShowsLevel p model costs repair.kept level
          shown = subst (ShowsLevel p model costs repair.kept) (is level) (keeps.reaches k level kl)

          of_all : IsRankOf p M (has (all_costing costs level.cost)) (length (costing_of costs level.cost repair.kept))
          of_all = shown-rank (all_costing costs level.cost) (subst (λ n. AreRising n (all_costing costs level.cost)) count (all-rising costs level.cost))
              level.ccf (length (costing_of costs level.cost repair.kept)) shown

          counted : IsRankOf p M (costing cost level.cost) (size_on (both (has repair.kept) (costing cost level.cost)) (length model.equations))
          counted = same-set p M (has (all_costing costs level.cost)) (costing cost level.cost)
              (λ i il. all-has costs level.cost i (omega (arith, il, count)))
              (size_on (both (has repair.kept) (costing cost level.cost)) (length model.equations))
              (subst (IsRankOf p M (has (all_costing costs level.cost)))
              (costing-counted costs level.cost repair.kept (subst (λ n. AreRising n repair.kept) (sym count) kept)
              ∙ ap (size_on (both (has repair.kept) (costing cost level.cost))) count) of_all)

  pub cheapest : IsCheapestRepair p M cost (outside (has repair.kept))
  cheapest = levels-cheapest p prime M big cost (has repair.kept) independent (λ e el _. reached e el)
