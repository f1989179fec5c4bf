use Rattle.std.proofs.Common.{◌≡◌, map, take, vec_len}
use Rattle.std.specs.List.{All}
use Rattle.dense_q.proofs.matrix.Mat.copy.Given as goal

abbrev pub invariant-loop-row : goal.invariant-loop-row
invariant-loop-row g l = record {
  rows : map (λ row. map g.F.Field.number row.items) l.all.items ≡ take l.row-index (map (λ row. map g.F.Field.number row.items) l.self-inside.rows.items);
  widths : All (λ row. vec_len row ≡ l.self-inside.width) l.all.items;
}
