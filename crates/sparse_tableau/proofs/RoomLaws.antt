-- The room of the parts of a sparse tableau.
use Rattle.std.proofs.Common.{◌≡◌, ℕ, ◌∙◌, arith, refl}
use Rattle.bit_table.specs.Bits.{Bits}
use Rattle.sparse_q.specs.Tables.{SparseTable}
use Rattle.row_transform.specs.Bases.{BaseLists}
use Rattle.row_transform.specs.Edits.{Room}
use Rattle.row_transform.specs.Entries.{HasTableSize}
use Rattle.sparse_tableau.specs.Sparse.{HasSparseRoom, HasSameRoom, HasTableRoom}

-- with none to have there is room
pub no-room : (q p s v : SparseTable) (base : BaseLists) (a b : Bits) →
    HasSparseRoom (record { q = q; p = p; s = s; v = v; base = base; room = record { rows = 0; columns = 0 } }) a b
no-room q p s v base a b = record {
  few = omega arith;
  narrow = omega arith;
  q_room = record { rows_fit = omega arith; columns_fit = omega arith };
  p_room = record { rows_fit = omega arith; columns_fit = omega arith };
  s_room = record { rows_fit = omega arith; columns_fit = omega arith };
  v_room = record { rows_fit = omega arith; columns_fit = omega arith };
  base_rows = omega arith;
  base_columns = omega arith;
  entry_rows = omega arith;
  entry_columns = omega arith;
  u_entry_rows = omega arith;
  u_entry_columns = omega arith;
}

fits : (rows columns : ℕ) (m n : SparseTable) → HasSameRoom m n → HasTableRoom rows columns m → HasTableRoom rows columns n
fits rows columns m n same room = record {
  rows_fit = omega (arith, room.rows_fit, same.row_room);
  columns_fit = omega (arith, room.columns_fit, same.column_room);
}

-- what keeps its room has room
pub room-kept : (q p s v qn pn sn vn : SparseTable) (base now : BaseLists) (room : Room) (a b c d : Bits) →
    HasSameRoom q qn → HasSameRoom p pn → HasSameRoom s sn → HasSameRoom v vn → now.row_room ≡ base.row_room →
    now.column_room ≡ base.column_room → HasTableSize a c → HasTableSize b d →
    HasSparseRoom (record { q = q; p = p; s = s; v = v; base = base; room = room }) a b →
    HasSparseRoom (record { q = qn; p = pn; s = sn; v = vn; base = now; room = room }) c d
room-kept q p s v qn pn sn vn base now room a b c d qr pr sr vr rows columns ac bd H = record {
  few = H.few;
  narrow = H.narrow;
  q_room = fits room.columns room.rows q qn qr H.q_room;
  p_room = fits room.rows room.columns p pn pr H.p_room;
  s_room = fits room.rows room.rows s sn sr H.s_room;
  v_room = fits room.rows room.rows v vn vr H.v_room;
  base_rows = omega (arith, H.base_rows, rows);
  base_columns = omega (arith, H.base_columns, columns);
  entry_rows = omega (arith, H.entry_rows, ac.size_same);
  entry_columns = omega (arith, H.entry_columns, ac.rows_same);
  u_entry_rows = omega (arith, H.u_entry_rows, bd.size_same);
  u_entry_columns = omega (arith, H.u_entry_columns, bd.rows_same);
}

pub same-room : (m : SparseTable) → HasSameRoom m m
same-room m = record { row_room = refl; column_room = refl }

pub rooms-joined : (a b c : SparseTable) → HasSameRoom a b → HasSameRoom b c → HasSameRoom a c
rooms-joined a b c ab bc = record { row_room = bc.row_room ∙ ab.row_room; column_room = bc.column_room ∙ ab.column_room }
