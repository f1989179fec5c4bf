-- Each model has its surplus equations with their conflict sets.
use Rattle.std.specs.Prelude.{ℕ, ◌<◌, List}
use Rattle.residue_theory.specs.Residues.{IsPrime}
use Rattle.mixed_matrices.specs.Models.{MixedMatrix}
use Rattle.study_answers.specs.Conflicts.{AreConflictsOf}
use Rattle.study_answers.specs.declared.conflicts.Conflict.{Conflict}

-- the conflicts of a model
pub record HasConflicts (p : ℕ) (M : MixedMatrix) : Type 0 where
  pub conflicts : List Conflict
  pub are : AreConflictsOf p M conflicts

-- p is a prime above 2
abbrev pub EachModelHasConflicts : Type 0
EachModelHasConflicts = (p : ℕ) → IsPrime p → 2 < p → (M : MixedMatrix) → HasConflicts p M
