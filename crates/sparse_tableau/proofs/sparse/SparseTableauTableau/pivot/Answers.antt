use Rattle.std.proofs.Common.{◌≢◌, ◌%◌, ◌<◌, sym, subst, arith}
use Rattle.sparse_q.specs.Tables.{sparse_rows, number_in}
use Rattle.bit_table.specs.Bits.{bit_in}
use Rattle.row_transform.specs.Entries.{HasSizeOf, HasTableSize}
use Rattle.row_transform.specs.Edits.{Room}
use Rattle.row_transform.proofs.EntryEdits.{size-next, size-kept}
use Rattle.row_transform.proofs.EntryLaws.{spread-closed}
use Rattle.sparse_tableau.specs.Sparse.{Sparse}
use Rattle.sparse_tableau.proofs.EntryLaws.{pivoted-listed, row_set-listed}
use Rattle.sparse_tableau.proofs.SparseLaws.{pivot-pivoted, pivoted-sparse, pivoted-state, zero-columns}
use Rattle.sparse_tableau.proofs.RoomLaws.{room-kept, same-room}
use Rattle.sparse_tableau.proofs.TransformLaws.{room-set}
use Rattle.sparse_tableau.proofs.sparse.SparseTableauTableau.pivot.Goals as goal

pub invariant_of-self : goal.invariant_of-self
invariant_of-self g c =
    let modulus = g.F.Field.modulus in
    let inside = c.self.inside in
    let room : Room = record { rows = inside.row_room; columns = inside.column_room } in
    let rl : c.args.row < sparse_rows inside.transform.p = subst (λ (t : Sparse). c.args.row < sparse_rows t.p)
    (sym c.self.view_is) c.requires.row in
    let cl : c.args.col < inside.transform.p.width = subst (λ (t : Sparse). c.args.col < t.p.width)
    (sym c.self.view_is) c.requires.col in
    let some : number_in inside.transform.p c.args.row c.args.col % modulus ≢ 0 =
    subst (λ (t : Sparse). number_in t.p c.args.row c.args.col % modulus ≢ 0) (sym c.self.view_is)
    c.requires.entry in
    let p = inside.transform.p in
    let listed = c.self.invariant.1.size in
    let sizes : HasTableSize inside.entries.bits c.close.new.self.bits =
    size-next inside.entries.bits c.spread.new.entries.bits c.close.new.self.bits c.spread.ensures.size c.close.ensures.rows c.close.ensures.size in
    let closed_size : HasSizeOf (sparse_rows p) p.width c.close.new.self.bits =
    size-kept (sparse_rows p) p.width inside.entries.bits c.close.new.self.bits listed sizes in
    let v_now = c.copy_row.ensures.size in
    let u_size : HasSizeOf (sparse_rows c.copy_row.new.self) c.copy_row.new.self.width c.list_row.new.entries.bits =
    size-kept (sparse_rows c.copy_row.new.self) c.copy_row.new.self.width inside.u_entries.bits c.list_row.new.entries.bits (record {
      columns_fit = omega (arith, c.self.invariant.2.size.columns_fit, v_now.width_is);
      rows_fit = omega (arith, c.self.invariant.2.size.rows_fit, v_now.rows_are);
    }) c.list_row.ensures.size in
    let ready = spread-closed (sparse_rows p) p.width (number_in p) (bit_in inside.entries.bits)
    (bit_in c.spread.new.entries.bits) (bit_in c.close.new.self.bits) c.args.row c.args.col c.spread.ensures.spread
    c.close.ensures.here (λ i j il ne. c.close.ensures.others i j (omega (arith, il, listed.rows_fit, c.spread.ensures.size.size_same)) ne) in (
      pivoted-sparse modulus g.met.F.Field.prime inside.columns inside.transform.p inside.transform.s inside.v
          c.pivot.new.self.p
          c.pivot.new.self.s c.copy_row.new.self inside.base c.take.new.self room c.args.row c.args.col
          c.self.invariant.0 rl cl some
          c.pivot.ensures.p.size c.pivot.ensures.s.size c.pivot.ensures.p.reduced c.pivot.ensures.s.reduced
          c.copy_row.ensures c.take.ensures.taken c.take.ensures.rows c.take.ensures.columns,
      pivoted-listed modulus inside.transform.p c.pivot.new.self.p inside.entries.bits c.close.new.self.bits
          c.args.row c.args.col cl
          c.self.invariant.1 ready
          (pivot-pivoted modulus g.met.F.Field.prime inside.columns inside.transform.p inside.transform.s inside.v
          c.pivot.new.self.p
          c.pivot.new.self.s c.copy_row.new.self inside.base c.take.new.self room c.args.row c.args.col
          c.self.invariant.0 rl cl some
          c.pivot.ensures.p.size c.pivot.ensures.s.size c.pivot.ensures.p.reduced c.pivot.ensures.s.reduced
          c.copy_row.ensures c.take.ensures.taken)
          c.pivot.ensures.p.reduced closed_size c.pivot.ensures.p.size,
      row_set-listed inside.v c.copy_row.new.self inside.u_entries.bits c.list_row.new.entries.bits c.args.row
          (number_in inside.columns c.args.col) c.self.invariant.2 c.copy_row.ensures u_size
          c.list_row.ensures.listed c.list_row.ensures.kept,
      room-kept inside.columns p inside.transform.s inside.v inside.columns c.pivot.new.self.p c.pivot.new.self.s c.copy_row.new.self
          inside.base c.take.new.self room inside.entries.bits inside.u_entries.bits c.close.new.self.bits c.list_row.new.entries.bits
          (same-room inside.columns) c.pivot.ensures.p.room c.pivot.ensures.s.room
          (room-set inside.v inside.v c.copy_row.new.self c.args.row (number_in inside.columns c.args.col) (same-room inside.v) c.copy_row.ensures)
          c.take.ensures.row_room c.take.ensures.column_room sizes c.list_row.ensures.size c.self.invariant.3,
    )

pub returns-clause-pivoted : goal.returns-clause-pivoted
returns-clause-pivoted g c =
    let modulus = g.F.Field.modulus in
    let inside = c.self.inside in
    let room : Room = record { rows = inside.row_room; columns = inside.column_room } in
    let rl : c.args.row < sparse_rows inside.transform.p = subst (λ (t : Sparse). c.args.row < sparse_rows t.p)
    (sym c.self.view_is) c.requires.row in
    let cl : c.args.col < inside.transform.p.width = subst (λ (t : Sparse). c.args.col < t.p.width)
    (sym c.self.view_is) c.requires.col in
    let some : number_in inside.transform.p c.args.row c.args.col % modulus ≢ 0 =
    subst (λ (t : Sparse). number_in t.p c.args.row c.args.col % modulus ≢ 0) (sym c.self.view_is) c.requires.entry in
    rw (← c.self.view_is)
    (pivoted-state modulus g.met.F.Field.prime inside.columns inside.transform.p inside.transform.s inside.v
    c.pivot.new.self.p
    c.pivot.new.self.s c.copy_row.new.self inside.base c.take.new.self room c.args.row c.args.col c.self.invariant.0 rl
    cl some
    c.pivot.ensures.p.size c.pivot.ensures.s.size c.pivot.ensures.p.reduced c.pivot.ensures.s.reduced
    c.copy_row.ensures c.take.ensures.taken)

pub returns-clause-zero_columns : goal.returns-clause-zero_columns
returns-clause-zero_columns g c =
    let modulus = g.F.Field.modulus in
    let inside = c.self.inside in
    let room : Room = record { rows = inside.row_room; columns = inside.column_room } in
    let rl : c.args.row < sparse_rows inside.transform.p = subst (λ (t : Sparse). c.args.row < sparse_rows t.p)
    (sym c.self.view_is) c.requires.row in
    let cl : c.args.col < inside.transform.p.width = subst (λ (t : Sparse). c.args.col < t.p.width)
    (sym c.self.view_is) c.requires.col in
    let some : number_in inside.transform.p c.args.row c.args.col % modulus ≢ 0 =
    subst (λ (t : Sparse). number_in t.p c.args.row c.args.col % modulus ≢ 0) (sym c.self.view_is) c.requires.entry in
    rw (← c.self.view_is)
    (zero-columns modulus g.met.F.Field.prime inside.columns inside.transform.p inside.transform.s inside.v
    c.pivot.new.self.p
    c.pivot.new.self.s c.copy_row.new.self inside.base c.take.new.self room c.args.row c.args.col c.self.invariant.0 rl
    cl some
    c.pivot.ensures.p.size c.pivot.ensures.s.size c.pivot.ensures.p.reduced c.pivot.ensures.s.reduced
    c.copy_row.ensures c.take.ensures.taken)
