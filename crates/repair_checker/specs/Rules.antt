-- The rules that a repair keeps which shows by itself that it is one, and that no other costs less: numbers 13 to 16,
-- behind those of a certificate.
use Rattle.std.specs.Prelude.{ℕ, ◌<◌, ◌≡◌, ◌⊎◌, List, length, map, slice_index, slice_index_or}
use Rattle.residue_theory.specs.Sets.{has}
use Rattle.residue_theory.specs.Sums.{sum_on}
use Rattle.mixed_model.specs.Models.{MixedModel, mixed_matrix_of}
use Rattle.cert_text.specs.Contents.{Contents}
use Rattle.cert_checker.specs.Answers.{IsRightFor}
use Rattle.cert_checker.specs.declared.checking.CheckError.{CheckError}
use Rattle.cert_checker.specs.declared.checking.CheckError.TheVariants.{NoMemory, Reject}
use Rattle.equation_matroid_laws.specs.GreedyChoices.{outside}
use Rattle.restricted_models.specs.Restrictions.{restricted}
use Rattle.repair_checker.specs.Costs.{AreLevels, all_costing, costing_of}
use Rattle.repair_checker.specs.declared.repair.Level.{Level}
use Rattle.repair_checker.specs.declared.repair.Repair.{Repair}

-- the form is a right one of the model with these equations alone, and shows that their rank is this
pub record ShowsRank (p : ℕ) (model : MixedModel) (equations : List ℕ) (ccf : Contents) (rank : ℕ) : Type 0 where
  pub right : IsRightFor p (mixed_matrix_of (restricted model equations)) ccf
  pub rank_is : ccf.rank ≡ rank

-- the costs of some levels
abbrev pub level_costs : {F : Type 0} → List (Level F) → List ℕ
level_costs levels = map (λ level. level.cost) levels

-- the form of a level shows that as many equations are kept of those that cost at least so much as their rank is
abbrev pub ShowsLevel : {F : Type 0} → ℕ → MixedModel → List ℕ → List ℕ → Level F → Type 0
ShowsLevel p model costs kept level =
    ShowsRank p model (all_costing costs level.cost) level.ccf (length (costing_of costs level.cost kept))

-- what the equations that are not kept cost together
abbrev pub cost_of_others : List ℕ → List ℕ → ℕ
cost_of_others costs kept = sum_on (outside (has kept)) (length costs) (slice_index costs)

-- rule 13: the levels are the costs that equations have
abbrev pub HasLevels : {F : Type 0} → List ℕ → Repair F → Type 0
HasLevels costs repair = AreLevels costs (level_costs repair.levels)

-- rule 14: the kept equations are independent, as a form shows
abbrev pub KeepsIndependent : {F : Type 0} → ℕ → MixedModel → Repair F → Type 0
KeepsIndependent p model repair = ShowsRank p model repair.kept repair.kept_ccf (length repair.kept)

-- rule 15: at each level as many are kept as may be, as a form shows
abbrev pub ReachesLevels : {F : Type 0} → ℕ → MixedModel → List ℕ → Repair F → Type 0
ReachesLevels {F} p model costs repair = (k : ℕ) (d : Level F) → k < length repair.levels →
    ShowsLevel p model costs repair.kept (slice_index_or repair.levels k d)

-- rule 16: the cost is that of the equations that are not kept
abbrev pub HasCost : {F : Type 0} → List ℕ → Repair F → Type 0
HasCost costs repair = repair.cost ≡ cost_of_others costs repair.kept

pub record KeepsRepairRules {F : Type 0} (p : ℕ) (model : MixedModel) (costs : List ℕ) (repair : Repair F)
    : Type 0 where
  pub levels : HasLevels costs repair
  pub independent : KeepsIndependent p model repair
  pub reaches : ReachesLevels p model costs repair
  pub cost : HasCost costs repair

-- rule 13 is broken, or 14 is and 13 is not, or so on
abbrev pub IsBrokenRepairRule : {F : Type 0} → ℕ → MixedModel → List ℕ → Repair F → ℕ → Type 0
IsBrokenRepairRule p model costs repair rule =
    ((rule ≡ 13) × (HasLevels costs repair → ⊥))
    ⊎ ((rule ≡ 14) × HasLevels costs repair × (KeepsIndependent p model repair → ⊥))
    ⊎ ((rule ≡ 15) × HasLevels costs repair × KeepsIndependent p model repair
    × (ReachesLevels p model costs repair → ⊥))
    ⊎ ((rule ≡ 16) × HasLevels costs repair × KeepsIndependent p model repair × ReachesLevels p model costs repair
    × (HasCost costs repair → ⊥))

-- why a repair is not taken: this rule is the first that it breaks, or memory ran out
abbrev pub IsWhyNoRepair : {F : Type 0} → ℕ → MixedModel → List ℕ → Repair F → CheckError → Type 0
IsWhyNoRepair p model costs repair (Reject rule) = IsBrokenRepairRule p model costs repair rule
IsWhyNoRepair p model costs repair NoMemory = Unit {0}
