use Rattle.std.proofs.Common.{◌≡◌, ◌≢◌, ℕ, ◌<◌, IfNone, IfSome, map, slice_index}
use Rattle.row_echelon.proofs.echelon.Echelon.lead.Given as goal

abbrev pub invariant-loop-column : goal.invariant-loop-column
invariant-loop-column g l = record {
  none : IfNone l.best ((j : ℕ) → j < l.column → slice_index (map g.F.Field.number l.row) j ≡ 0);
  below : IfSome l.best (λ lead. lead < l.self.width);
  some : IfSome l.best (λ lead. slice_index (map g.F.Field.number l.row) lead ≢ 0);
}
