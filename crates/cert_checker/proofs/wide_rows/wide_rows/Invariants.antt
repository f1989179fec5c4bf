use Rattle.std.proofs.Common.{◌≡◌, length, map, option_map}
use Rattle.cert_text.specs.Contents.{numbered_rows}
use Rattle.cert_checker.proofs.WideLaws.{AreValuesOfFirst}
use Rattle.cert_checker.proofs.wide_rows.wide_rows.Given as goal

abbrev pub invariant-loop-row : goal.invariant-loop-row
invariant-loop-row g l = record {
  count : length l.rows.items ≡ l.row-index;
  each : AreValuesOfFirst g.F.Field.modulus l.columns l.row-index (numbered_rows g.F.Field.number l.matrix)
      (map (option_map (λ values. map g.F.Field.number values.items)) l.rows.items);
}
