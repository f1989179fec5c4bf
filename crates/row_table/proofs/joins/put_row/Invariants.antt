use Rattle.std.proofs.Common.{◌≡◌, ◌≢◌, ℕ, ◌<◌, false, cond, ltb, map, slice_index}
use Rattle.row_table.specs.Layouts.{all, layout_places}
use Rattle.row_table.specs.PutOffs.{HasSameShape, IsSettled, actual}
use Rattle.row_table.proofs.joins.put_row.Given as goal

abbrev pub invariant-loop-c : goal.invariant-loop-c
invariant-loop-c g l = record {
  shape : HasSameShape l.table l.fn.table;
  settled : IsSettled l.table l.row;
  small : (d : ℕ) → d < l.c → slice_index (map g.F.Field.number l.items) d < g.F.Field.modulus;
  here : (d : ℕ) → d < all l.places → (layout_places l.places).is_unit d ≡ false →
      actual g.F.Field.modulus l.table l.row ((layout_places l.places).slot d)
      ≡ cond (ltb d l.c) (slice_index (map g.F.Field.number l.items) d) 0;
  other_rows : (i j : ℕ) → i < l.fn.table.rows → j < l.fn.table.columns → i ≢ l.row →
      actual g.F.Field.modulus l.table i j ≡ actual g.F.Field.modulus l.fn.table i j;
}
