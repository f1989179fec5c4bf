use Rattle.std.proofs.Common.{◌+◌, ◌<◌, ◌≤◌, sym, subst, arith}
use Rattle.row_transform.specs.Entries.{IsColumnListedIn}
use Rattle.row_transform.specs.Edits.{Room}
use Rattle.row_transform.proofs.EntryEdits.{same_size}
use Rattle.sparse_tableau.specs.Sparse.{Sparse}
use Rattle.sparse_tableau.proofs.ColumnEdits.{column-joined, column-listed}
use Rattle.sparse_tableau.proofs.RoomLaws.{room-kept, same-room}
use Rattle.sparse_tableau.proofs.sparse.SparseTableauTableau.insert_column.Goals as goal

pub invariant_of-self : goal.invariant_of-self
invariant_of-self g c =
    let inside = c.self.inside in
    let room : Room = record { rows = inside.row_room; columns = inside.column_room } in
    let q = inside.columns in
    let p = inside.transform.p in
    let s = inside.transform.s in
    let v = inside.v in
    let a = inside.entries.bits in
    let b = inside.u_entries.bits in
    let el : c.args.at ≤ p.width = subst (λ (t : Sparse). c.args.at ≤ t.p.width) (sym c.self.view_is) c.requires.at in
    let more : p.width < inside.column_room = subst (λ (t : Sparse). t.p.width < t.room.columns) (sym c.self.view_is) c.requires.cols in
    let fits : p.width + 1 ≤ a.rows = omega (arith, more, c.self.invariant.3.entry_columns) in
    let bits = subst (λ n. IsColumnListedIn n a c.insert_column.new.self.bits c.args.at) c.cols-columns.ensures.cols c.insert_column.ensures in (
      column-joined g.F.Field.modulus c.columns_join_tableaus.ensures q p s v inside.base room a c.self.invariant.0 c.self.invariant.1
          c.args.at el c.add_empty_row.new.m c.add_empty_column.new.m c.insert_column-2.new.self c.insert_column.new.self.bits
          c.add_empty_row.ensures c.add_empty_column.ensures c.insert_column-2.ensures bits fits,
      column-listed g.F.Field.modulus c.columns_join_tableaus.ensures q p s v inside.base room a c.self.invariant.0 c.self.invariant.1
          c.args.at el c.add_empty_row.new.m c.add_empty_column.new.m c.insert_column-2.new.self c.insert_column.new.self.bits
          c.add_empty_row.ensures c.add_empty_column.ensures c.insert_column-2.ensures bits fits,
      c.self.invariant.2,
      room-kept q p s v c.add_empty_row.new.m c.add_empty_column.new.m s v inside.base c.insert_column-2.new.self room a b
          c.insert_column.new.self.bits b c.add_empty_row.ensures.room c.add_empty_column.ensures.room (same-room s) (same-room v)
          c.insert_column-2.ensures.counts.row_room c.insert_column-2.ensures.counts.column_room c.insert_column.ensures.size
          (same_size b) c.self.invariant.3,
    )
