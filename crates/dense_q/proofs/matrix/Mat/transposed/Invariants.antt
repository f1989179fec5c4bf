use Rattle.std.proofs.Common.{ℕ, ◌≡◌, ◌<◌, map, length, slice_index, slice_index_or, vec_len, []}
use Rattle.std.specs.List.{All}
use Rattle.dense_q.proofs.matrix.Mat.transposed.Given as goal

abbrev pub invariant-loop-j : goal.invariant-loop-j
invariant-loop-j g l = record {
  count : length l.all.items ≡ l.j;
  widths : All (λ row. vec_len row ≡ vec_len l.self-inside.rows) l.all.items;
  done : (k : ℕ) → k < l.j → slice_index_or (map (λ row. map g.F.Field.number row.items) l.all.items) k [] ≡ map
      (λ row. slice_index (map g.F.Field.number row.items) k) l.self-inside.rows.items;
}
