use Rattle.std.proofs.Common.{◌≡◌, ◌≤◌, ◌∙◌, ℕ, Result, Ok, Err, OnErr, List, length, map, max, ap, sym, subst, arith}
use Rattle.std.proofs.lemmas.List.{with_items_is}
use Rattle.std.specs.List.{All}
use Rattle.sparse_q.specs.Rows.{Row, AreRowsChanged, IsRowWidened}
use Rattle.sparse_q.specs.Tables.{SparseTable, with_room}
use Rattle.sparse_q.proofs.TableLaws.{roomy_table}
use Rattle.sparse_q.proofs.ShelfLaws.{roomier, widened-items}
use Rattle.sparse_q.proofs.matrix.SparseMat.room.Goals as goal

on_err : {T E : Type 0} (r : Result T E) (P : Type 0) → P → OnErr r P
on_err (Ok x) P p = tt
on_err (Err e) P p = p

-- rows with more room hold what they held
same : (w o v : ℕ) (rows old new held : List Row) (m : SparseTable) → old ≡ rows → AreRowsChanged IsRowWidened old new → held ≡ new →
    record { width = w; rows = map (λ (r : Row). r.items) rows; row_room = o; column_room = v } ≡ m →
    record { width = w; rows = map (λ (r : Row). r.items) held; row_room = o; column_room = v } ≡ m
same w o v rows old new held m is changed now view =
    ap (λ xs. let t : SparseTable = record { width = w; rows = xs; row_room = o; column_room = v } in t)
    (ap (map (λ (r : Row). r.items)) now ∙ widened-items old new changed ∙ ap (map (λ (r : Row). r.items)) is) ∙ view

pub returns-in_err-widen-2-clause-err : goal.returns-in_err-widen-2-clause-err
returns-in_err-widen-2-clause-err g c = on_err c.from_residual-in_err-widen-2.result _
    (same c.self.inside.width c.self.inside.row_room c.self.inside.column_room c.self.inside.rows.items c.deref_mut.result.now
    c.widen-2.new.rows _ c.args.self.now (c.deref_mut.ensures.value ∙ c.in_ok-reserve.ensures.items) c.in_err-widen-2.ensures.same
    (with_items_is c.reserve.new.self c.widen-2.new.rows
    (c.in_err-widen-2.ensures.same.count ∙ ap (λ rs. length rs) c.deref_mut.ensures.value ∙ sym c.reserve.new.self.ok.0)) c.self.view_is)

pub returns-in_err-widen-3-clause-err : goal.returns-in_err-widen-3-clause-err
returns-in_err-widen-3-clause-err g c = on_err c.from_residual-in_err-widen-3.result _
    (same c.self.inside.width c.self.inside.row_room c.self.inside.column_room c.self.inside.rows.items c.deref_mut.result.now
    c.widen-2.new.rows _ c.args.self.now (c.deref_mut.ensures.value ∙ c.in_ok-reserve.ensures.items) c.in_ok-widen-2.ensures.same
    (with_items_is c.reserve.new.self c.widen-2.new.rows
    (c.in_ok-widen-2.ensures.same.count ∙ ap (λ rs. length rs) c.deref_mut.ensures.value ∙ sym c.reserve.new.self.ok.0)) c.self.view_is)

pub returns-in_err-add_rows-clause-err : goal.returns-in_err-add_rows-clause-err
returns-in_err-add_rows-clause-err g c = on_err c.from_residual-in_err-add_rows.result _
    (same c.self.inside.width c.self.inside.row_room c.self.inside.column_room c.self.inside.rows.items c.deref_mut.result.now
    c.widen-2.new.rows _ c.args.self.now (c.deref_mut.ensures.value ∙ c.in_ok-reserve.ensures.items) c.in_ok-widen-2.ensures.same
    (with_items_is c.reserve.new.self c.widen-2.new.rows
    (c.in_ok-widen-2.ensures.same.count ∙ ap (λ rs. length rs) c.deref_mut.ensures.value ∙ sym c.reserve.new.self.ok.0)) c.self.view_is)

pub invariant_of-self-2 : goal.invariant_of-self-2
invariant_of-self-2 g c =
    let rows = c.self.inside.rows.items in
    let cols = c.max-cols.result in
    let now = with_items_is c.reserve.new.self c.widen-2.new.rows
    (c.in_ok-widen-2.ensures.same.count ∙ ap (λ rs. length rs) c.deref_mut.ensures.value ∙ sym c.reserve.new.self.ok.0) in
    let shelf_now = with_items_is c.reserve-2.new.self c.widen-3.new.rows
    (c.in_ok-widen-3.ensures.same.count ∙ ap (λ rs. length rs) c.deref_mut-2.ensures.value ∙ sym c.reserve-2.new.self.ok.0) in
    let changed : AreRowsChanged IsRowWidened rows c.widen-2.new.rows =
    subst (λ rs. AreRowsChanged IsRowWidened rs c.widen-2.new.rows) (c.deref_mut.ensures.value ∙ c.in_ok-reserve.ensures.items)
    c.in_ok-widen-2.ensures.same in
    let spare : c.widen.new.self.room ≡ max c.self.inside.spare.room cols = ap (λ (r : Row). r.room) c.in_ok-widen.ensures.ok in
    let kept = c.in_ok-add_rows.ensures.kept cols (omega arith)
    (subst (All (λ (r : Row). cols ≤ r.room)) (sym shelf_now) c.in_ok-widen-3.ensures.wide) in
    roomier c.self.inside.width c.self.inside.spare.width c.self.inside.spare.room c.self.inside.row_room c.self.inside.column_room
    _ _ rows c.self.inside.shelf.items c.self.invariant _ c.add_rows.new.shelf.items c.widen.new.self.width c.widen.new.self.room
    c.max-rows.result cols _ _
    (subst (AreRowsChanged IsRowWidened rows) (sym now) changed) (ap (λ (r : Row). r.width) c.in_ok-widen.ensures.ok)
    (subst (All (λ (r : Row). cols ≤ r.room)) (sym now) c.in_ok-widen-2.ensures.wide)
    kept
    (omega (arith, spare)) (omega (arith, c.max-cols.ensures, c.requires.cols, c.self.invariant.1.few))
    (omega (
      arith,
      ap (λ rs. length rs) now,
      c.in_ok-widen-2.ensures.same.count,
      ap (λ rs. length rs) c.deref_mut.ensures.value,
      c.reserve.new.self.ok.0,
      c.in_ok-add_rows.ensures.enough,
      c.add_rows.new.shelf.ok.0,
      c.saturating_sub-missing.ensures,
      c.saturating_sub-3.ensures,
      c.len-3.ensures,
      c.len-4.ensures,
    ))
    (omega (arith, c.max-rows.ensures, c.in_ok-reserve.ensures.ok, c.in_ok-reserve.ensures.capacity, c.len.ensures, c.saturating_sub.ensures))
    (omega (
      arith,
      c.max-rows.ensures,
      c.in_ok-reserve-2.ensures.ok,
      c.in_ok-reserve-2.ensures.capacity,
      c.in_ok-add_rows.ensures.capacity,
      c.len-2.ensures,
      c.saturating_sub-2.ensures,
    ))

pub returns-clause-ok : goal.returns-clause-ok
returns-clause-ok g c =
    let rows_now : c.max-rows.result ≡ max c.self.inside.row_room c.args.rows = omega (arith, c.max-rows.ensures) in
    let columns_now : c.max-cols.result ≡ max c.self.inside.column_room c.args.cols = omega (arith, c.max-cols.ensures) in
    same c.self.inside.width c.max-rows.result c.max-cols.result c.self.inside.rows.items c.deref_mut.result.now
    c.widen-2.new.rows _ _ (c.deref_mut.ensures.value ∙ c.in_ok-reserve.ensures.items) c.in_ok-widen-2.ensures.same
    (with_items_is c.reserve.new.self c.widen-2.new.rows
    (c.in_ok-widen-2.ensures.same.count ∙ ap (λ rs. length rs) c.deref_mut.ensures.value ∙ sym c.reserve.new.self.ok.0))
    (ap (λ o. roomy_table c.self.inside.width c.self.inside.rows.items o c.max-cols.result) rows_now
    ∙ ap (λ v. roomy_table c.self.inside.width c.self.inside.rows.items (max c.self.inside.row_room c.args.rows) v) columns_now
    ∙ ap (λ t. with_room t c.args.rows c.args.cols) c.self.view_is)
