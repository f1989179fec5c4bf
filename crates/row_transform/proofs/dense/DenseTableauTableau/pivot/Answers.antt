use Rattle.std.proofs.Common.{◌<◌, sym, subst, arith}
use Rattle.sparse_q.specs.Tables.{SparseTable, sparse_rows}
use Rattle.bit_table.specs.Bits.{bit_in}
use Rattle.row_table.specs.RowTables.{Combined, p_part}
use Rattle.row_transform.specs.Dense.{Dense}
use Rattle.row_transform.specs.Entries.{HasSizeOf, AreEntriesListed}
use Rattle.row_transform.proofs.DenseLaws.{pivoted-dense, pivoted-state}
use Rattle.row_transform.proofs.EntryLaws.{pivot-listed, spread-closed}
use Rattle.row_transform.proofs.dense.DenseTableauTableau.pivot.Goals as goal

pub invariant_of-self : goal.invariant_of-self
invariant_of-self g c =
    let p = g.F.Field.modulus in
    let row = c.args.row in
    let col = c.args.col in
    let old : Combined = c.self.inside.table in
    let now : Combined = c.pivot.new.self in
    let view = sym c.self.view_is in
    let below : row < sparse_rows old.q = subst (λ (d : Dense). row < sparse_rows d.table.q) view c.requires.row in
    let within : col < old.q.width = subst (λ (d : Dense). col < d.table.q.width) view c.requires.col in
    let spread = c.spread.ensures.size in
    let listed = c.self.invariant.1 in
    let size : HasSizeOf (sparse_rows old.q) old.q.width c.close.new.self.bits = record {
      columns_fit = omega (arith, c.close.ensures.rows, spread.rows_same, listed.size.columns_fit);
      rows_fit = omega (arith, c.close.ensures.size, spread.size_same, listed.size.rows_fit);
    } in
    let ready = spread-closed (sparse_rows old.q) old.q.width (p_part p old) (bit_in c.self.inside.entries.bits)
    (bit_in c.spread.new.self.bits) (bit_in c.close.new.self.bits) row col c.spread.ensures.spread
    c.close.ensures.here (λ i j il ne. c.close.ensures.others i j (omega (arith, il, spread.size_same, listed.size.rows_fit)) ne) in (
      pivoted-dense p (record {
        table = old;
        base = c.self.inside.base;
        row_room = c.self.inside.row_room;
        column_room = c.self.inside.column_room;
      }) now c.take.new.self row col
          c.self.invariant.0 c.pivot.ensures.q c.pivot.ensures.pivoted c.take.ensures.taken below
          c.take.ensures.rows c.take.ensures.columns c.pivot.ensures.basic,
      subst (λ (m : SparseTable). AreEntriesListed p (sparse_rows m) m.width (p_part p now) c.close.new.self.bits)
          (sym c.pivot.ensures.q)
          (pivot-listed p (sparse_rows old.q) old.q.width (p_part p old) (p_part p now) c.self.inside.entries.bits
          c.close.new.self.bits row col c.self.invariant.1 ready c.pivot.ensures.pivoted c.pivot.ensures.rest within
          size),
      record {
        table_rows = omega (arith, c.self.invariant.2.table_rows, c.pivot.ensures.row_room);
        table_columns = omega (arith, c.self.invariant.2.table_columns, c.pivot.ensures.column_room);
        base_rows = omega (arith, c.self.invariant.2.base_rows, c.take.ensures.row_room);
        base_columns = omega (arith, c.self.invariant.2.base_columns, c.take.ensures.column_room);
        listed_rows = omega (arith, c.self.invariant.2.listed_rows, c.close.ensures.size, c.spread.ensures.size.size_same);
        listed_columns = omega (arith, c.self.invariant.2.listed_columns, c.close.ensures.rows, c.spread.ensures.size.rows_same);
        few = c.self.invariant.2.few;
        narrow = c.self.invariant.2.narrow;
      },
    )

pub returns-clause-pivoted : goal.returns-clause-pivoted
returns-clause-pivoted g c =
    rw (← c.self.view_is) (pivoted-state g.F.Field.modulus
    (record {
      table = c.self.inside.table;
      base = c.self.inside.base;
      row_room = c.self.inside.row_room;
      column_room = c.self.inside.column_room;
    }) c.pivot.new.self c.take.new.self
    c.args.row c.args.col c.self.invariant.0 c.pivot.ensures.q c.pivot.ensures.pivoted c.take.ensures.taken)
