use Rattle.std.proofs.Common.{◌≡◌, ◌++◌, ℕ, length}
use Rattle.std.specs.List.Sorted.{IsStrictlyIncreasing}
use Rattle.residue_theory.specs.Sets.{has}
use Rattle.sparse_t.specs.Lists.{AreAllBelow}
use Rattle.mixed_model.specs.Models.{row_of}
use Rattle.mixed_model.specs.Rows.{symbol_in}
use Rattle.value_lists.proofs.symbols.symbol_columns.Given as goal

abbrev pub invariant-loop-entry : goal.invariant-loop-entry
invariant-loop-entry g l = record {
  can_next : (goal.iterator-loop-entry g).can_next l.entry-iterator;
  is_finite : (goal.iterator-loop-entry g).is_finite l.entry-iterator;
  split : row_of l.model l.equation ≡ l.yielded ++ l.entry-iterator;
  rising : IsStrictlyIncreasing l.columns.items;
  below : AreAllBelow (length l.model.unknowns) l.columns.items;
  exact : (j : ℕ) → has l.columns.items j ≡ symbol_in l.yielded j;
}
