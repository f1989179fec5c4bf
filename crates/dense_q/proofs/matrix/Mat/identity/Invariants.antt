use Rattle.std.proofs.Common.{ℕ, ◌≡◌, ◌<◌, map, length, replicate, slice_index_or, slice_set, vec_len, []}
use Rattle.std.specs.List.{All}
use Rattle.dense_q.proofs.matrix.Mat.identity.Given as goal

abbrev pub invariant-loop-i : goal.invariant-loop-i
invariant-loop-i g l = record {
  count : length l.all.items ≡ l.i;
  widths : All (λ row. vec_len row ≡ l.n) l.all.items;
  done : (k : ℕ) → k < l.i → slice_index_or (map (λ row. map g.F.Field.number row.items) l.all.items) k [] ≡ slice_set (replicate l.n 0) k 1;
}
