use Rattle.std.proofs.Common.{◌≡◌, ◌%◌, ◌<◌, ℕ, false, sym, subst}
use Rattle.sparse_q.specs.Tables.{sparse_rows, number_in}
use Rattle.row_transform.specs.Bases.{is_base}
use Rattle.row_transform.specs.Edits.{Room}
use Rattle.row_transform.specs.Entries.{IsColumnListedOut}
use Rattle.row_transform.proofs.EntryEdits.{same_size}
use Rattle.sparse_tableau.specs.Sparse.{Sparse}
use Rattle.sparse_tableau.proofs.ColumnEdits.{column-left, column-listed_out, zero-no_base}
use Rattle.sparse_tableau.proofs.RoomLaws.{room-kept, same-room}
use Rattle.sparse_tableau.proofs.sparse.SparseTableauTableau.remove_column.Goals as goal

pub remove_column-requires-3-clause-free : goal.remove_column-requires-3-clause-free
remove_column-requires-3-clause-free g c =
    let inside = c.self.inside in
    zero-no_base g.F.Field.modulus (record {
      q = inside.columns;
      p = inside.transform.p;
      s = inside.transform.s;
      v = inside.v;
      base = inside.base;
      room = record { rows = inside.row_room; columns = inside.column_room };
    }) c.args.at c.self.invariant.0
    (subst (λ (t : Sparse). c.args.at < t.p.width) (sym c.self.view_is) c.requires.at)
    (subst (λ (t : Sparse). (i : ℕ) → i < sparse_rows t.p → number_in t.q c.args.at i % g.F.Field.modulus ≡ 0) (sym c.self.view_is)
    c.requires.empty)

pub invariant_of-self : goal.invariant_of-self
invariant_of-self g c =
    let inside = c.self.inside in
    let room : Room = record { rows = inside.row_room; columns = inside.column_room } in
    let q = inside.columns in
    let p = inside.transform.p in
    let s = inside.transform.s in
    let v = inside.v in
    let a = inside.entries.bits in
    let b = inside.u_entries.bits in
    let el : c.args.at < p.width = subst (λ (t : Sparse). c.args.at < t.p.width) (sym c.self.view_is) c.requires.at in
    let none : is_base inside.base c.args.at ≡ false = zero-no_base g.F.Field.modulus (record {
      q = q;
      p = p;
      s = s;
      v = v;
      base = inside.base;
      room = room;
    }) c.args.at c.self.invariant.0 el
    (subst (λ (t : Sparse). (i : ℕ) → i < sparse_rows t.p → number_in t.q c.args.at i % g.F.Field.modulus ≡ 0) (sym c.self.view_is)
    c.requires.empty) in
    let bits = subst (λ n. IsColumnListedOut n a c.remove_column-2.new.self.bits c.args.at) c.cols-columns.ensures.cols
    c.remove_column-2.ensures in (
      column-left g.F.Field.modulus c.columns_leave_tableaus.ensures q p s v inside.base room a c.self.invariant.0 c.self.invariant.1
          c.args.at el c.remove_row.new.m c.remove_column.new.self c.remove_column-3.new.self c.remove_column-2.new.self.bits
          c.remove_row.ensures c.remove_column.ensures c.remove_column-3.ensures bits none,
      column-listed_out g.F.Field.modulus c.columns_leave_tableaus.ensures q p s v inside.base room a c.self.invariant.0
          c.self.invariant.1 c.args.at el c.remove_row.new.m c.remove_column.new.self c.remove_column-3.new.self
          c.remove_column-2.new.self.bits c.remove_row.ensures c.remove_column.ensures c.remove_column-3.ensures bits none,
      c.self.invariant.2,
      room-kept q p s v c.remove_row.new.m c.remove_column.new.self s v inside.base c.remove_column-3.new.self room a b
          c.remove_column-2.new.self.bits b c.remove_row.ensures.room
          (record { row_room = c.remove_column.ensures.row_room; column_room = c.remove_column.ensures.column_room }) (same-room s)
          (same-room v) c.remove_column-3.ensures.counts.row_room c.remove_column-3.ensures.counts.column_room
          c.remove_column-2.ensures.size (same_size b) c.self.invariant.3,
    )
