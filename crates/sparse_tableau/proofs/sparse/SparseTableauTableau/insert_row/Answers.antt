use Rattle.std.proofs.Common.{◌≡◌, ◌≢◌, ◌-◌, ◌<◌, ◌≤◌, ℕ, true, length, map, slice_index, sym, subst, arith}
use Rattle.bit_table.specs.Bits.{bit_in, IsBitSet}
use Rattle.sparse_q.specs.Tables.{sparse_rows, number_in}
use Rattle.row_transform.specs.Bases.{IsBaseRowIn}
use Rattle.row_transform.specs.Edits.{Room}
use Rattle.row_transform.specs.Entries.{IsColumnListedIn}
use Rattle.row_transform.proofs.EntryEdits.{sizes-joined}
use Rattle.sparse_tableau.specs.Joins.{IsEmptyRowIn, IsJoinedTo, IsRowPut}
use Rattle.sparse_tableau.specs.Sparse.{Sparse, HasSameRoom}
use Rattle.sparse_tableau.proofs.RoomLaws.{room-kept, rooms-joined}
use Rattle.sparse_tableau.proofs.RowJoins.{row-in-joined, row-in-entries, row-in-numbers}
use Rattle.sparse_tableau.proofs.sparse.SparseTableauTableau.insert_row.Goals as goal

pub invariant_of-self : goal.invariant_of-self
invariant_of-self g c =
    let modulus = g.F.Field.modulus in
    let prime = g.met.F.Field.prime in
    let inside = c.self.inside in
    let room : Room = record { rows = inside.row_room; columns = inside.column_room } in
    let q = inside.columns in
    let p = inside.transform.p in
    let s = inside.transform.s in
    let v = inside.v in
    let base = inside.base in
    let a = inside.entries.bits in
    let b = inside.u_entries.bits in
    let x : ℕ → ℕ = λ j. slice_index (map g.F.Field.number c.args.items.now) j in
    let e = c.args.at in
    let last = c.rows-last.result in
    let is : last ≡ sparse_rows p = c.rows-last.ensures.rows in
    let el : e ≤ sparse_rows p = subst (λ (t : Sparse). e ≤ sparse_rows t.p) (sym c.self.view_is) c.requires.at in
    let wide : length c.args.items.now ≡ p.width = subst (λ (t : Sparse). length c.args.items.now ≡ t.p.width) (sym c.self.view_is) c.requires.items in
    let more : sparse_rows p < inside.row_room = subst (λ (t : Sparse). sparse_rows t.p < t.room.rows) (sym c.self.view_is) c.requires.rows in
    let q1 = c.add_empty_column.new.m in
    let q2 = c.put_column.new.m in
    let p1 = c.add_empty_row.new.m in
    let p2 = c.put_row.new.m in
    let pn = c.reduce.new.transform.p in
    let s1 = c.add_unit.new.m in
    let sn = c.reduce.new.transform.s in
    let v1 = c.add_unit-2.new.m in
    let vn = c.reduce.new.v in
    let now = c.insert_row.new.self in
    let b1 = c.insert_column.new.self.bits in
    let b2 = c.set.new.self in
    let bn = c.reduce.new.entries.bits in
    let an = c.list_row.new.entries.bits in
    let p_row = subst (λ k. IsEmptyRowIn p p1 k) is c.add_empty_row.ensures in
    let p_put = subst (λ k. IsRowPut p1 p2 k x) is c.put_row.ensures in
    let v_last : sparse_rows v1 - 1 ≡ sparse_rows p = omega (arith, c.add_unit-2.ensures.size.rows_are, c.self.invariant.0.v_size.rows_are) in
    let joined : IsJoinedTo modulus (sparse_rows p) e p.width x base s1 sn p2 pn v1 vn b2 bn =
    subst (λ k. IsJoinedTo modulus (sparse_rows p) e k x base s1 sn p2 pn v1 vn b2 bn) wide
    (subst (λ k. IsJoinedTo modulus k e (length c.args.items.now) x base s1 sn p2 pn v1 vn b2 bn) v_last c.reduce.ensures) in
    let based = subst (λ k. IsBaseRowIn base now k) is c.insert_row.ensures in
    let a_size = c.list_row.ensures.size in
    let b_size = sizes-joined b b1 bn c.insert_column.ensures.size
    (sizes-joined b1 b2 bn (record { rows_same = c.set.ensures.rows; size_same = c.set.ensures.size }) joined.bits) in
    let v_room : HasSameRoom v1 vn = joined.room in (
      row-in-joined modulus prime q p s v base room a b c.self.invariant.0 e x el q1 q2 p1 p2 pn s1 sn v1 vn now b1 b2 bn
          c.add_empty_column.ensures c.put_column.ensures p_row p_put c.add_unit.ensures c.add_unit-2.ensures joined based
          c.rows_join_tableaus.ensures c.bases_keep_a_joined_row.ensures,
      row-in-entries modulus prime q p s v base room a b c.self.invariant.0 e x el q1 q2 p1 p2 pn s1 sn v1 vn now b1 b2 bn
          c.add_empty_column.ensures c.put_column.ensures p_row p_put c.add_unit.ensures c.add_unit-2.ensures joined based
          an c.self.invariant.1 (omega (arith, more, c.self.invariant.3.entry_rows)) a_size
          (subst (λ k. (j : ℕ) → j < pn.width → number_in pn k j ≢ 0 → bit_in an j k ≡ true) is c.list_row.ensures.listed)
          c.list_row.ensures.kept,
      row-in-numbers modulus prime q p s v base room a b c.self.invariant.0 e x el q1 q2 p1 p2 pn s1 sn v1 vn now b1 b2 bn
          c.add_empty_column.ensures c.put_column.ensures p_row p_put c.add_unit.ensures c.add_unit-2.ensures joined based
          c.self.invariant.2 (omega (arith, more, c.self.invariant.3.u_entry_rows)) (omega (arith, more, c.self.invariant.3.u_entry_columns))
          (subst (λ k. IsColumnListedIn k b b1 e) is c.insert_column.ensures)
          (subst (λ k. IsBitSet (bit_in b1) (bit_in b2) b1.size e k) is c.set.ensures.set) c.set.ensures.rows c.set.ensures.size,
      room-kept q p s v q2 pn sn vn base now room a b an bn
          (rooms-joined q q1 q2 c.add_empty_column.ensures.room c.put_column.ensures.room)
          (rooms-joined p p1 pn p_row.room (rooms-joined p1 p2 pn p_put.room joined.on_p.room))
          (rooms-joined s s1 sn c.add_unit.ensures.room joined.on_s.room)
          (rooms-joined v v1 vn c.add_unit-2.ensures.room v_room) based.counts.row_room based.counts.column_room a_size b_size
          c.self.invariant.3,
    )
