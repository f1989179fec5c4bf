use Rattle.std.proofs.Common.{ℕ, ◌≡◌, ◌<◌, ◌*◌, ◌%◌, map, length, slice_index, slice_index_or, []}
use Rattle.residue_theory.specs.Sums.{sum_below}
use Rattle.dense_q.proofs.rows.combination.Given as goal

abbrev pub invariant-loop-row : goal.invariant-loop-row
invariant-loop-row g l = record {
  length_is : length l.sum.items ≡ l.columns;
  sums : (j : ℕ) → j < l.columns → slice_index (map g.F.Field.number l.sum.items) j
      ≡ sum_below (length l.yielded)
      (λ t. slice_index (map g.F.Field.number l.coefficients) t * slice_index
      (slice_index_or (map (λ row. map g.F.Field.number row.items) l.rows) t []) j) % g.F.Field.modulus;
}
