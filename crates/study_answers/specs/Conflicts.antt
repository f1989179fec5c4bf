-- The surplus equations of a model, each with its conflict set.
use Rattle.std.specs.Prelude.{ℕ, ◌<◌, List, length, map, slice_index_or}
use Rattle.mixed_matrices.specs.Models.{MixedMatrix}
use Rattle.mixed_matrices.specs.Removals.{IsSurplus}
use Rattle.solve_plan.specs.Marks.{AreMembersOf}
use Rattle.equation_choice.specs.ConflictLists.{IsConflictList}
use Rattle.study_answers.specs.declared.conflicts.Conflict.{Conflict}

-- the equations are the surplus ones, rising, and each has its conflict set
pub record AreConflictsOf (p : ℕ) (M : MixedMatrix) (conflicts : List Conflict) : Type 0 where
  pub surplus : AreMembersOf M.rows (IsSurplus p M) (map (λ conflict. conflict.equation) conflicts)
  pub sets : (k : ℕ) (d : Conflict) → k < length conflicts →
      IsConflictList p M (slice_index_or conflicts k d).equation (slice_index_or conflicts k d).set
