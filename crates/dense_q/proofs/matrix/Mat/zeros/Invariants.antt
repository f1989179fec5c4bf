use Rattle.std.proofs.Common.{◌≡◌, map, replicate, vec_len}
use Rattle.std.specs.List.{All}
use Rattle.dense_q.proofs.matrix.Mat.zeros.Given as goal

abbrev pub invariant-loop-row : goal.invariant-loop-row
invariant-loop-row g l = record {
  rows : map (λ row. map g.F.Field.number row.items) l.all.items ≡ replicate l._row (replicate l.cols 0);
  widths : All (λ row. vec_len row ≡ l.cols) l.all.items;
}
