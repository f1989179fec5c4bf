use Rattle.row_transform.specs.Edits.{Room}
use Rattle.row_transform.proofs.EntryEdits.{same_size}
use Rattle.sparse_tableau.proofs.RoomLaws.{room-kept, same-room}
use Rattle.sparse_tableau.proofs.SparseLaws.{dropped-sparse}
use Rattle.sparse_tableau.proofs.sparse.SparseTableauTableau.drop_base.Goals as goal

pub invariant_of-self : goal.invariant_of-self
invariant_of-self g c =
    let inside = c.self.inside in
    let room : Room = record { rows = inside.row_room; columns = inside.column_room } in
    let q = inside.columns in
    let p = inside.transform.p in
    let s = inside.transform.s in
    let v = inside.v in
    let a = inside.entries.bits in
    let b = inside.u_entries.bits in (
      dropped-sparse g.F.Field.modulus
          (record {
            q = inside.columns;
            p = inside.transform.p;
            s = inside.transform.s;
            v = inside.v;
            base = inside.base;
            room = room;
          })
          c.leave.new.self _ c.self.invariant.0 c.leave.ensures.rows c.leave.ensures.columns c.leave.ensures.dropped,
      c.self.invariant.1,
      c.self.invariant.2,
      room-kept q p s v q p s v inside.base c.leave.new.self room a b a b (same-room q) (same-room p) (same-room s) (same-room v)
          c.leave.ensures.row_room c.leave.ensures.column_room (same_size a) (same_size b) c.self.invariant.3,
    )
