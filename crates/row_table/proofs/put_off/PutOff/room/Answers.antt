use Rattle.std.proofs.Common.{◌≡◌, max, ap, arith}
use Rattle.dense_q.specs.Tables.{height}
use Rattle.row_table.specs.PutOffs.{Kept}
use Rattle.row_table.proofs.PutOffEdits.{larger-same, widened-to}
use Rattle.row_table.proofs.put_off.PutOff.room.Goals as goal

pub returns-clause-ok : goal.returns-clause-ok
returns-clause-ok g c =
    let old : Kept = record {
      rows = c.self.inside.rows;
      columns = c.self.inside.columns;
      stored = c.self.inside.stored;
      factors = c.self.inside.factors;
      pending = c.self.inside.pending;
      count = c.self.inside.count;
    } in
    let rows : c.max-rows.result ≡ max (height c.args.self.now.stored) c.args.rows = omega (
      arith,
      c.max-rows.ensures,
      c.rows.ensures.rows,
      ap (λ (d : Kept). height d.stored) c.self.view_is,
    ) in
    let columns : c.max-columns.result ≡ max c.args.self.now.stored.width c.args.columns = omega (
      arith,
      c.max-columns.ensures,
      c.cols.ensures.cols,
      ap (λ (d : Kept). d.stored.width) c.self.view_is,
    ) in
    widened-to g.F.Field.modulus old c.args.self.now _ _ _ _ _ c.self.view_is rows columns
    (larger-same g.F.Field.modulus old c.in_ok-stored.stored c.in_ok-factors.factors c.in_ok-pending.pending
    c.max-rows.result c.max-columns.result _ _ c.self.invariant c.in_ok-stored.ensures c.in_ok-factors.ensures
    c.in_ok-pending.ensures)
