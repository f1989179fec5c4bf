use Rattle.std.proofs.Common.{◌≡◌, ◌<◌, ◌↔◌, true}
use Rattle.std.specs.List.{AllWithin}
use Rattle.cert_checker.proofs.value_rows.is_zero_row.Given as goal

abbrev pub invariant-loop-value : goal.invariant-loop-value
invariant-loop-value g l = record {
  tells : (l.is_zero ≡ true) ↔ AllWithin (λ value. g.F.Field.number value ≡ 0) l.row 0 l.value-index;
  below : AllWithin (λ value. g.F.Field.number value < g.F.Field.modulus) l.row 0 l.value-index;
}
