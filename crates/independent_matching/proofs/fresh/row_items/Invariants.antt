use Rattle.std.proofs.Common.{◌≡◌, ◌<◌, ℕ, length, map, slice_index}
use Rattle.dense_q.specs.Tables.{entry}
use Rattle.independent_matching.proofs.fresh.row_items.Given as goal

abbrev pub invariant-loop-col : goal.invariant-loop-col
invariant-loop-col g l = record {
  count : length l.items.items ≡ l.col;
  told : (j : ℕ) → j < l.col → slice_index (map g.F.Field.number l.items.items) j ≡ entry l.new.q l.row j;
}
