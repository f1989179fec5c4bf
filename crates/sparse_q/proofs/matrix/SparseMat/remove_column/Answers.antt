use Rattle.std.proofs.Common.{◌<◌, ◌∙◌, sym, subst, vec_capacity, arith}
use Rattle.std.proofs.lemmas.List.{with_items_is}
use Rattle.sparse_q.specs.Rows.{AreRowsChanged, IsRowCut}
use Rattle.sparse_q.specs.Tables.{SparseTable}
use Rattle.sparse_q.proofs.ShelfLaws.{column-out, column-taken}
use Rattle.sparse_q.proofs.matrix.SparseMat.remove_column.Goals as goal

pub invariant_of-self : goal.invariant_of-self
invariant_of-self g c =
    let rows = c.self.inside.rows.items in
    let inside = subst (λ (t : SparseTable). c.args.at < t.width) (sym c.self.view_is) c.requires in
    let cut : AreRowsChanged (IsRowCut c.args.at) rows c.remove_column.new.rows =
    subst (λ rs. AreRowsChanged (IsRowCut c.args.at) rs c.remove_column.new.rows) c.deref_mut.ensures.value c.remove_column.ensures in
    let now = with_items_is c.self.inside.rows c.remove_column.new.rows (cut.count ∙ sym c.self.inside.rows.ok.0) in
    column-out c.self.inside.width c.self.inside.spare.width c.self.inside.spare.room c.self.inside.row_room c.self.inside.column_room
    (vec_capacity c.self.inside.rows) (vec_capacity c.self.inside.shelf) rows c.self.inside.shelf.items c.self.invariant c.args.at
    c.remove_column-2.new.self.width c.remove_column-2.new.self.room _ (subst (AreRowsChanged (IsRowCut c.args.at) rows) (sym now) cut) inside
    (omega (arith, c.remove_column-2.ensures.width, c.self.invariant.0.spare_full)) c.remove_column-2.ensures.room

pub returns : goal.returns
returns g c =
    let rows = c.self.inside.rows.items in
    let inside = subst (λ (t : SparseTable). c.args.at < t.width) (sym c.self.view_is) c.requires in
    let cut : AreRowsChanged (IsRowCut c.args.at) rows c.remove_column.new.rows =
    subst (λ rs. AreRowsChanged (IsRowCut c.args.at) rs c.remove_column.new.rows) c.deref_mut.ensures.value c.remove_column.ensures in
    let now = with_items_is c.self.inside.rows c.remove_column.new.rows (cut.count ∙ sym c.self.inside.rows.ok.0) in
    column-taken c.self.inside.width c.self.inside.row_room c.self.inside.column_room rows _ c.args.self.now c.args.at c.self.view_is inside
    (subst (AreRowsChanged (IsRowCut c.args.at) rows) (sym now) cut)
