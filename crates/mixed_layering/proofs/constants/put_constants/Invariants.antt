use Rattle.std.proofs.Common.{◌≡◌, ◌++◌, ◌-◌}
use Rattle.std.specs.Option.{unwrap_or}
use Rattle.dense_q.specs.Tables.{height}
use Rattle.mixed_model.specs.Models.{row_of}
use Rattle.mixed_model.specs.Rows.{constant_in}
use Rattle.mixed_layering.specs.Places.{FillsRow}
use Rattle.mixed_layering.proofs.constants.put_constants.Given as goal

abbrev pub invariant-loop-entry : goal.invariant-loop-entry
invariant-loop-entry g l = record {
  can_next : (goal.iterator-loop-entry g).can_next l.entry-iterator;
  is_finite : (goal.iterator-loop-entry g).is_finite l.entry-iterator;
  split : row_of l.model l.equation ≡ l.yielded ++ l.entry-iterator;
  filled : FillsRow l.fn.q l.q (height l.fn.q - 1) (λ j. unwrap_or (constant_in l.yielded j) 0);
}
