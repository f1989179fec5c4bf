-- Laws of cheapest repairs: whose costs they may take, that one list of equations is kept, and when all are.
use Rattle.std.specs.Prelude.{ℕ, ◌<◌, ◌≡◌, ◌↔◌, List, length}
use Rattle.residue_theory.specs.Residues.{IsPrime}
use Rattle.mixed_matrices.specs.Removals.{IsSurplus}
use Rattle.mixed_model.specs.Models.{MixedModel, mixed_matrix_of}
use Rattle.problem_heads.specs.HeadNumbers.{numbers_of_head}
use Rattle.problem_heads.specs.Problems.{IsRepairProblem}
use Rattle.problem_heads.specs.declared.form.Form.TheVariants.{Repair}
use Rattle.repair_checker.specs.Costs.{AreCosts}
use Rattle.cheapest_repairs.specs.ShownRepairs.{AreKept}

-- the costs that the head of a text says of a model: one for each equation, small, and few different ones
abbrev pub CostsOfAProblemAreCosts : Type 0
CostsOfAProblemAreCosts =
    (p : ℕ) (text : List ℕ) (model : MixedModel) (costs : List ℕ) →
    IsRepairProblem (numbers_of_head p Repair text) model costs → AreCosts (length model.equations) costs

-- one list of equations is kept
abbrev pub KeptEquationsAreOne : Type 0
KeptEquationsAreOne =
    (p : ℕ) (model : MixedModel) (costs kept other : List ℕ) →
    AreKept p model costs kept → AreKept p model costs other → kept ≡ other

-- all equations are kept exactly where none is surplus; p is a prime above 2
abbrev pub AllAreKeptWhereNoneIsSurplus : Type 0
AllAreKeptWhereNoneIsSurplus =
    (p : ℕ) → IsPrime p → 2 < p → (model : MixedModel) (costs kept : List ℕ) → AreKept p model costs kept →
    (length kept ≡ length model.equations)
    ↔ ((e : ℕ) → e < length model.equations → IsSurplus p (mixed_matrix_of model) e → ⊥)
