use Rattle.std.proofs.Common.{◌≡◌, ◌≢◌, ℕ, ◌<◌, ◌+◌, ◌*◌, ◌%◌, map, length, slice_index}
use Rattle.residue_theory.specs.Sums.{sum_below}
use Rattle.row_table.specs.Layouts.{layout_places}
use Rattle.row_table.specs.PutOffs.{HasSameShape, actual}
use Rattle.row_table.specs.TableEdits.{taken}
use Rattle.row_table.proofs.joins.reduce_last.Given as goal

abbrev pub invariant-loop-i : goal.invariant-loop-i
invariant-loop-i g l = record {
  shape : HasSameShape l.table l.fn.table;
  here : (j : ℕ) → j < l.fn.table.columns → actual g.F.Field.modulus l.table l.row j % g.F.Field.modulus
      ≡ (actual g.F.Field.modulus l.fn.table l.row j + sum_below l.i (λ i. taken g.F.Field.modulus (length l.items)
      (layout_places l.places).basic (λ c. slice_index (map g.F.Field.number l.items) c) i
      * actual g.F.Field.modulus l.fn.table i j)) % g.F.Field.modulus;
  other_rows : (u j : ℕ) → u < l.fn.table.rows → j < l.fn.table.columns → u ≢ l.row →
      actual g.F.Field.modulus l.table u j % g.F.Field.modulus ≡ actual g.F.Field.modulus l.fn.table u j % g.F.Field.modulus;
}
