use Rattle.std.proofs.Common.{ℕ, ◌≡◌, ◌<◌, map, length, slice_index_or, vec_len, []}
use Rattle.std.specs.List.{All}
use Rattle.dense_q.specs.Rows.{IsRowSum}
use Rattle.dense_q.proofs.matrix.Mat.product.Given as goal

abbrev pub invariant-loop-coefficients : goal.invariant-loop-coefficients
invariant-loop-coefficients g l = record {
  count : length l.all.items ≡ l.coefficients-index;
  widths : All (λ row. vec_len row ≡ l.b-inside.width) l.all.items;
  done : (k : ℕ) → k < l.coefficients-index →
      IsRowSum g.F.Field.modulus
      (slice_index_or (map (λ row. map g.F.Field.number row.items) l.coefficients-items) k [])
      (map (λ row. map g.F.Field.number row.items) l.b-inside.rows.items) l.b-inside.width
      (slice_index_or (map (λ row. map g.F.Field.number row.items) l.all.items) k []);
}
