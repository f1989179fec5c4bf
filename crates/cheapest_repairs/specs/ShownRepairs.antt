-- A cheapest repair that shows by itself that none costs less.
use Rattle.std.specs.Prelude.{ℕ, List, length, slice_index}
use Rattle.std.specs.List.{All}
use Rattle.residue_theory.specs.Sets.{everything, has}
use Rattle.mixed_model.specs.Models.{MixedModel, mixed_matrix_of}
use Rattle.cert_text.specs.Ranges.{AreRising, IsCcf}
use Rattle.equation_matroid_laws.specs.GreedyChoices.{IsCheapestRepair, IsGreedyChoice, by_cost, outside}
use Rattle.repair_checker.specs.Rules.{KeepsRepairRules}
use Rattle.repair_checker.specs.declared.repair.Repair.{Repair}

-- its forms are those that a certificate prints
abbrev pub AreInForm : {F : Type 0} → ℕ → Repair F → Type 0
AreInForm p repair = IsCcf p repair.kept_ccf × All (λ level. IsCcf p level.ccf) repair.levels

-- The equations of a model are tried by falling cost, those of one cost by rising number, and one is kept where R of
-- those before it rises with it; the kept ones are listed rising.
pub record AreKept (p : ℕ) (model : MixedModel) (costs kept : List ℕ) : Type 0 where
  pub choice : IsGreedyChoice p (mixed_matrix_of model) (by_cost (slice_index costs)) everything (has kept)
  pub rising : AreRising (length model.equations) kept

-- These are kept, no repair costs less than what is not kept, and the forms of the repair show that.
pub record IsShownRepair {F : Type 0} (p : ℕ) (model : MixedModel) (costs : List ℕ) (repair : Repair F)
    : Type 0 where
  pub kept : AreKept p model costs repair.kept
  pub cheapest : IsCheapestRepair p (mixed_matrix_of model) (slice_index costs) (outside (has repair.kept))
  pub rules : KeepsRepairRules p model costs repair
  pub forms : AreInForm p repair
