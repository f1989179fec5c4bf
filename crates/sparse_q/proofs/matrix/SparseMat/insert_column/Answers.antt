use Rattle.std.proofs.Common.{◌≡◌, ◌+◌, ◌<◌, ◌∙◌, length, map, ap, sym, subst, vec_capacity}
use Rattle.std.proofs.lemmas.List.{length-map, with_items_is}
use Rattle.sparse_q.specs.Rows.{Row, row_raised}
use Rattle.sparse_q.specs.Tables.{SparseTable, with_empty_column}
use Rattle.sparse_q.proofs.TableLaws.{roomy_table}
use Rattle.sparse_q.proofs.ShelfLaws.{column-in, raised-items-of}
use Rattle.sparse_q.proofs.matrix.SparseMat.insert_column.Goals as goal

pub invariant_of-self : goal.invariant_of-self
invariant_of-self g c =
    let rows = c.self.inside.rows.items in
    let is : c.insert_column.new.rows ≡ map (row_raised c.args.at) rows = c.insert_column.ensures ∙ ap (map (row_raised c.args.at)) c.deref_mut.ensures.value in
    let narrow = subst (λ (t : SparseTable). t.width < 8192) (sym c.self.view_is) c.requires.few in
    column-in c.self.inside.width c.self.inside.spare.width c.self.inside.spare.room c.self.inside.row_room c.self.inside.column_room
    (vec_capacity c.self.inside.rows) (vec_capacity c.self.inside.shelf) rows c.self.inside.shelf.items c.self.invariant c.args.at
    c.reset.new.self.width c.reset.new.self.room _
    (with_items_is c.self.inside.rows c.insert_column.new.rows
    (ap (λ rs. length rs) is ∙ length-map rows (row_raised c.args.at) ∙ sym c.self.inside.rows.ok.0) ∙ is) narrow
    (ap (λ (r : Row). r.width) c.reset.ensures) (ap (λ (r : Row). r.room) c.reset.ensures)

pub returns : goal.returns
returns g c =
    let rows = c.self.inside.rows.items in
    let is : c.insert_column.new.rows ≡ map (row_raised c.args.at) rows = c.insert_column.ensures ∙ ap (map (row_raised c.args.at)) c.deref_mut.ensures.value in
    ap (λ rs. roomy_table (c.self.inside.width + 1) rs c.self.inside.row_room c.self.inside.column_room)
    (with_items_is c.self.inside.rows c.insert_column.new.rows
    (ap (λ rs. length rs) is ∙ length-map rows (row_raised c.args.at) ∙ sym c.self.inside.rows.ok.0) ∙ is)
    ∙ ap (λ xs. let t : SparseTable = record {
      width = c.self.inside.width + 1;
      rows = xs;
      row_room = c.self.inside.row_room;
      column_room = c.self.inside.column_room;
    } in t) (raised-items-of c.args.at rows)
    ∙ ap (λ t. with_empty_column t c.args.at) c.self.view_is
