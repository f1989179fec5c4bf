-- Each model whose equations have costs has a cheapest repair that shows that none costs less.
use Rattle.std.specs.Prelude.{ℕ, ◌<◌, List, length}
use Rattle.residue_theory.specs.Residues.{IsPrime}
use Rattle.mixed_model.specs.Models.{IsModel, MixedModel}
use Rattle.repair_checker.specs.Costs.{AreCosts}
use Rattle.repair_checker.specs.declared.repair.Repair.{Repair}
use Rattle.cheapest_repairs.specs.ShownRepairs.{IsShownRepair}

-- a repair of a model whose equations have these costs
pub record HasRepair (p : ℕ) (model : MixedModel) (costs : List ℕ) : Type 0 where
  pub repair : Repair ℕ
  pub is : IsShownRepair p model costs repair

-- p is a prime above 2
abbrev pub EachModelHasARepair : Type 0
EachModelHasARepair =
    (p : ℕ) → IsPrime p → 2 < p → (model : MixedModel) → IsModel p model → (costs : List ℕ) →
    AreCosts (length model.equations) costs → HasRepair p model costs
