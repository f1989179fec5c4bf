use Rattle.std.proofs.Common.{ℕ, ◌≡◌, ◌<◌, length, map, slice_index_or, []}
use Rattle.cert_text.specs.Contents.{numbered_rows}
use Rattle.cert_checker.specs.Gathering.{IsZeroRow, IsRowCombination}
use Rattle.cert_checker.proofs.products.is_product.Given as goal

abbrev pub invariant-loop-i : goal.invariant-loop-i
invariant-loop-i g l = record {
  long : length l.row.items ≡ l.columns;
  zero : IsZeroRow g.F.Field.modulus l.columns (map g.F.Field.number l.row.items);
  so_far : (i : ℕ) → i < l.i → IsRowCombination g.F.Field.modulus (length l.b) l.columns (slice_index_or (numbered_rows g.F.Field.number l.a) i [])
      (numbered_rows g.F.Field.number l.b) (slice_index_or (numbered_rows g.F.Field.number l.c) i []);
}
