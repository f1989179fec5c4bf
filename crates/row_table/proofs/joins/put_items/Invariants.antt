use Rattle.std.proofs.Common.{◌≡◌, ◌≢◌, ℕ, ◌<◌, map, slice_index}
use Rattle.sparse_q.specs.Tables.{HasSize, number_in, sparse_rows}
use Rattle.row_table.proofs.joins.put_items.Given as goal

abbrev pub invariant-loop-j : goal.invariant-loop-j
invariant-loop-j g l = record {
  size : HasSize (sparse_rows l.fn.q) l.fn.q.width l.q;
  row_room : l.q.row_room ≡ l.fn.q.row_room;
  column_room : l.q.column_room ≡ l.fn.q.column_room;
  here : (k : ℕ) → k < l.j → number_in l.q l.at k ≡ slice_index (map g.F.Field.number l.items) k;
  others : (i k : ℕ) → i ≢ l.at → number_in l.q i k ≡ number_in l.fn.q i k;
}
