use Rattle.std.proofs.Common.{◌≡◌, ◌%◌, length, sym, subst, arith}
use Rattle.residue_theory.proofs.SetLaws.{differ}
use Rattle.row_table.specs.RowTables.{s_part}
use Rattle.row_transform.specs.Dense.{Dense, IsBareRow}
use Rattle.row_transform.proofs.DenseRemovals.{next-row}
use Rattle.row_transform.proofs.FreedBases.{bare-none}
use Rattle.row_transform.proofs.dense.DenseTableau.bare_row.Goals as goal
use Rattle.row_transform.proofs.dense.DenseTableau.bare_row.Goals.{else-has_entry-via-then-has_entry+else-is_none, else-has_entry-via-else-has_entry}

pub loop-row-preserved : goal.loop-row-preserved
loop-row-preserved g c =
    let p = g.F.Field.modulus in
    let d = c.args.self.now in
    let of : Dense = record {
      table = c.self.inside.table;
      base = c.self.inside.base;
      row_room = c.self.inside.row_room;
      column_room = c.self.inside.column_room;
    } in
    next-row (λ i. IsBareRow d i → s_part p d.table i c.args.at % p ≡ 0) c.loop-row.row c.loop-row.invariant
    (elim c.else-has_entry.branch [
      | else-has_entry-via-then-has_entry+else-is_none w ↦ λ bare.
          let here : IsBareRow of c.loop-row.row = subst (λ (t : Dense). IsBareRow t c.loop-row.row) (sym c.self.view_is) bare in
          absurd (differ (bare-none w.column_of.result of.base (length of.base.rows) c.loop-row.row w.column_of.ensures.below
          w.column_of.ensures.member w.column_of.ensures.at_row
          (λ y yl h. here y (omega (arith, yl, c.self.invariant.0.base_columns)) h)) w.if-is_none.ensures)
      | else-has_entry-via-else-has_entry w ↦ λ bare. c.has_entry.ensures.none w.if-has_entry.false
    ])
