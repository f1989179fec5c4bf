use Rattle.std.proofs.Common.{◌≡◌, ◌+◌, ◌≤◌, ℕ, vec_len, vec_capacity}
use Rattle.std.specs.List.{All}
use Rattle.sparse_q.specs.Rows.{Row}
use Rattle.sparse_q.proofs.shelf.add_rows.Given as goal

abbrev pub invariant-loop-row : goal.invariant-loop-row
invariant-loop-row g l = record {
  capacity : vec_capacity l.fn.shelf ≤ vec_capacity l.shelf;
  kept : (w : ℕ) → w ≤ l.columns → All (λ (r : Row). w ≤ r.room) l.fn.shelf.items → All (λ (r : Row). w ≤ r.room) l.shelf.items;
  count : vec_len l.fn.shelf + l._row ≡ vec_len l.shelf;
}
