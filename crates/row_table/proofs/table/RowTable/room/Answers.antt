use Rattle.std.proofs.Common.{length, refl, ap, sym, subst, ◌∙◌, arith}
use Rattle.dense_q.specs.Tables.{height}
use Rattle.sparse_q.specs.Tables.{SparseTable, number_in, sparse_rows}
use Rattle.row_table.specs.PutOffs.{Kept, actual}
use Rattle.row_table.specs.Layouts.{Layout, layout_places, rows_of_layout}
use Rattle.row_table.specs.RowTables.{Combined}
use Rattle.row_table.specs.TableEdits.{IsWidenedTable}
use Rattle.row_table.proofs.RoomLaws.{actual-widened, room-kept, widened-combined, widened-told}
use Rattle.row_table.proofs.table.RowTable.room.Goals as goal

pub invariant_of-self-in_err-room-2 : goal.invariant_of-self-in_err-room-2
invariant_of-self-in_err-room-2 g c =
    let p = g.F.Field.modulus in
    let t : Combined = record {
      q = c.self.inside.q;
      kept = c.self.inside.table;
      layout = c.self.inside.places;
      row_room = c.self.inside.row_room;
      column_room = c.self.inside.column_room;
    } in
    let n : Combined = record {
      q = c.room.new.self;
      kept = c.self.inside.table;
      layout = c.room-2.new.self;
      row_room = c.self.inside.row_room;
      column_room = c.self.inside.column_room;
    } in (
      widened-combined p t n c.self.invariant.0 (ap sparse_rows c.in_ok-room.ensures.ok)
          (ap (λ (m : SparseTable). m.width) c.in_ok-room.ensures.ok) (ap number_in c.in_ok-room.ensures.ok) (ap rows_of_layout
          c.in_err-room-2.ensures.err)
          (ap (λ (l : Layout). l.columns) c.in_err-room-2.ensures.err) (ap layout_places c.in_err-room-2.ensures.err) refl refl refl,
      c.self.invariant.1 ∙ sym (ap sparse_rows c.in_ok-room.ensures.ok),
      room-kept t n _ _ c.self.invariant.2 refl refl (omega arith) (omega arith) (omega (
        arith,
        ap (λ (l : Layout). l.row_room)
            c.in_err-room-2.ensures.err,
      ))
          (omega (arith, ap (λ (l : Layout). l.column_room) c.in_err-room-2.ensures.err))
          (omega (arith, ap (λ (m : SparseTable). m.row_room) c.in_ok-room.ensures.ok)) (omega (
            arith,
            ap (λ
                (m : SparseTable). m.column_room) c.in_ok-room.ensures.ok,
          )) (omega arith),
    )

pub invariant_of-self-in_err-reserve : goal.invariant_of-self-in_err-reserve
invariant_of-self-in_err-reserve g c =
    let p = g.F.Field.modulus in
    let t : Combined = record {
      q = c.self.inside.q;
      kept = c.self.inside.table;
      layout = c.self.inside.places;
      row_room = c.self.inside.row_room;
      column_room = c.self.inside.column_room;
    } in
    let n : Combined = record {
      q = c.room.new.self;
      kept = c.self.inside.table;
      layout = c.room-2.new.self;
      row_room = c.self.inside.row_room;
      column_room = c.self.inside.column_room;
    } in (
      widened-combined p t n c.self.invariant.0 (ap sparse_rows c.in_ok-room.ensures.ok)
          (ap (λ (m : SparseTable). m.width) c.in_ok-room.ensures.ok) (ap number_in c.in_ok-room.ensures.ok) (ap rows_of_layout
          c.in_ok-room-2.ensures.ok)
          (ap (λ (l : Layout). l.columns) c.in_ok-room-2.ensures.ok) (ap layout_places c.in_ok-room-2.ensures.ok) refl refl refl,
      (ap (λ xs. length xs) c.in_err-reserve.ensures.items ∙ c.self.invariant.1) ∙ sym (ap sparse_rows c.in_ok-room.ensures.ok),
      room-kept t n _ _ c.self.invariant.2 refl refl (omega arith) (omega arith) (omega (
        arith,
        ap (λ (l : Layout). l.row_room)
            c.in_ok-room-2.ensures.ok,
      ))
          (omega (arith, ap (λ (l : Layout). l.column_room) c.in_ok-room-2.ensures.ok))
          (omega (arith, ap (λ (m : SparseTable). m.row_room) c.in_ok-room.ensures.ok)) (omega (
            arith,
            ap (λ
                (m : SparseTable). m.column_room) c.in_ok-room.ensures.ok,
          )) c.in_err-reserve.ensures.capacity,
    )

pub invariant_of-self-in_err-room-3 : goal.invariant_of-self-in_err-room-3
invariant_of-self-in_err-room-3 g c =
    let p = g.F.Field.modulus in
    let t : Combined = record {
      q = c.self.inside.q;
      kept = c.self.inside.table;
      layout = c.self.inside.places;
      row_room = c.self.inside.row_room;
      column_room = c.self.inside.column_room;
    } in
    let n : Combined = record {
      q = c.room.new.self;
      kept = c.room-3.new.self;
      layout = c.room-2.new.self;
      row_room = c.self.inside.row_room;
      column_room = c.self.inside.column_room;
    } in (
      widened-combined p t n c.self.invariant.0 (ap sparse_rows c.in_ok-room.ensures.ok)
          (ap (λ (m : SparseTable). m.width) c.in_ok-room.ensures.ok) (ap number_in c.in_ok-room.ensures.ok) (ap rows_of_layout
          c.in_ok-room-2.ensures.ok)
          (ap (λ (l : Layout). l.columns) c.in_ok-room-2.ensures.ok) (ap layout_places c.in_ok-room-2.ensures.ok) (ap (λ
          (k : Kept). k.rows) c.in_err-room-3.ensures.err) (ap (λ (k : Kept). k.columns) c.in_err-room-3.ensures.err) (ap
          (actual p) c.in_err-room-3.ensures.err),
      (ap (λ xs. length xs) c.in_ok-reserve.ensures.items ∙ c.self.invariant.1) ∙ sym (ap sparse_rows c.in_ok-room.ensures.ok),
      room-kept t n _ _ c.self.invariant.2 refl refl (omega (arith, ap (λ (k : Kept). height k.stored) c.in_err-room-3.ensures.err)) (omega (
        arith,
        ap (λ
            (k : Kept). k.stored.width) c.in_err-room-3.ensures.err,
      )) (omega (arith, ap (λ (l : Layout). l.row_room) c.in_ok-room-2.ensures.ok)) (omega (
        arith,
        ap
            (λ (l : Layout). l.column_room) c.in_ok-room-2.ensures.ok,
      ))
          (omega (arith, ap (λ (m : SparseTable). m.row_room) c.in_ok-room.ensures.ok)) (omega (
            arith,
            ap (λ
                (m : SparseTable). m.column_room) c.in_ok-room.ensures.ok,
          )) c.in_ok-reserve.ensures.capacity,
    )

pub invariant_of-self-2 : goal.invariant_of-self-2
invariant_of-self-2 g c =
    let p = g.F.Field.modulus in
    let t : Combined = record {
      q = c.self.inside.q;
      kept = c.self.inside.table;
      layout = c.self.inside.places;
      row_room = c.self.inside.row_room;
      column_room = c.self.inside.column_room;
    } in
    let n : Combined = record {
      q = c.room.new.self;
      kept = c.room-3.new.self;
      layout = c.room-2.new.self;
      row_room = c.max-self-inside.result;
      column_room = c.max-self-inside-2.result;
    } in (
      widened-combined p t n c.self.invariant.0 (ap sparse_rows c.in_ok-room.ensures.ok)
          (ap (λ (m : SparseTable). m.width) c.in_ok-room.ensures.ok) (ap number_in c.in_ok-room.ensures.ok) (ap rows_of_layout
          c.in_ok-room-2.ensures.ok)
          (ap (λ (l : Layout). l.columns) c.in_ok-room-2.ensures.ok)
          (ap layout_places c.in_ok-room-2.ensures.ok) c.in_ok-room-3.ensures.ok.rows_same c.in_ok-room-3.ensures.ok.columns_same
          (actual-widened p t.kept n.kept _ _ c.in_ok-room-3.ensures.ok),
      (ap (λ xs. length xs) c.in_ok-reserve.ensures.items ∙ c.self.invariant.1) ∙ sym (ap sparse_rows c.in_ok-room.ensures.ok),
      record {
        stored_rows = omega (arith, c.self.invariant.2.stored_rows, c.in_ok-room-3.ensures.ok.rows_room, c.max-self-inside.ensures);
        stored_columns = omega (arith, c.self.invariant.2.stored_columns, c.in_ok-room-3.ensures.ok.columns_room, c.max-self-inside-2.ensures);
        layout_rows = omega (
          arith,
          c.self.invariant.2.layout_rows,
          ap (λ (l : Layout). l.row_room) c.in_ok-room-2.ensures.ok,
          c.max-self-inside.ensures,
        );
        layout_columns = omega (
          arith,
          c.self.invariant.2.layout_columns,
          ap (λ
              (l : Layout). l.column_room) c.in_ok-room-2.ensures.ok,
          c.max-self-inside-2.ensures,
        );
        q_rows = omega (arith, c.self.invariant.2.q_rows, ap (λ (m : SparseTable). m.row_room) c.in_ok-room.ensures.ok, c.max-self-inside.ensures);
        q_columns = omega (
          arith,
          c.self.invariant.2.q_columns,
          ap (λ (m : SparseTable). m.column_room) c.in_ok-room.ensures.ok,
          c.max-self-inside-2.ensures,
        );
        space_rows = omega (
          arith,
          c.self.invariant.2.space_rows,
          c.in_ok-reserve.ensures.ok,
          c.in_ok-reserve.ensures.capacity,
          c.len.ensures,
          c.saturating_sub.ensures,
          c.in_ok-reserve.ensures.len,
          c.max-self-inside.ensures,
        );
      },
    )

pub returns-clause-same : goal.returns-clause-same
returns-clause-same g c =
    let p = g.F.Field.modulus in
    let t : Combined = record {
      q = c.self.inside.q;
      kept = c.self.inside.table;
      layout = c.self.inside.places;
      row_room = c.self.inside.row_room;
      column_room = c.self.inside.column_room;
    } in
    let n : Combined = record {
      q = c.room.new.self;
      kept = c.room-3.new.self;
      layout = c.room-2.new.self;
      row_room = c.max-self-inside.result;
      column_room = c.max-self-inside-2.result;
    } in
    subst (λ d. IsWidenedTable p d n) c.self.view_is
    (widened-told p t n c.self.invariant.0 (ap sparse_rows c.in_ok-room.ensures.ok)
    (ap (λ (m : SparseTable). m.width) c.in_ok-room.ensures.ok) (ap number_in c.in_ok-room.ensures.ok) (ap rows_of_layout c.in_ok-room-2.ensures.ok)
    (ap (λ (l : Layout). l.columns) c.in_ok-room-2.ensures.ok)
    (ap layout_places c.in_ok-room-2.ensures.ok) c.in_ok-room-3.ensures.ok.rows_same c.in_ok-room-3.ensures.ok.columns_same
    (actual-widened p t.kept n.kept _ _ c.in_ok-room-3.ensures.ok))
