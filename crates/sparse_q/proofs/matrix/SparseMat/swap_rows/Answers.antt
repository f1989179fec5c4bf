use Rattle.std.proofs.Common.{◌≡◌, ◌∙◌, length, ap, sym, vec_capacity, arith}
use Rattle.std.proofs.lemmas.List.{length-map}
use Rattle.dense_q.proofs.TableLaws.{map-swap}
use Rattle.sparse_q.specs.Rows.{Row}
use Rattle.sparse_q.specs.Tables.{SparseTable, sparse_rows, with_table_rows_swapped}
use Rattle.sparse_q.proofs.TableLaws.{roomy_table}
use Rattle.sparse_q.proofs.ShelfLaws.{rows-swapped}
use Rattle.sparse_q.proofs.matrix.SparseMat.swap_rows.Goals as goal

pub invariant_of-self : goal.invariant_of-self
invariant_of-self g c =
    let rows = c.self.inside.rows.items in
    let count : length rows ≡ sparse_rows c.args.self.now = sym (length-map rows (λ (r : Row). r.items)) ∙ ap sparse_rows c.self.view_is in
    rows-swapped c.self.inside.width c.self.inside.spare.width c.self.inside.spare.room c.self.inside.row_room c.self.inside.column_room
    (vec_capacity c.self.inside.rows) (vec_capacity c.self.inside.shelf) (vec_capacity c.swap.new.self) rows c.self.inside.shelf.items
    c.swap.new.self.items c.args.i c.args.k (omega (arith, count, c.requires.i)) (omega (arith, count, c.requires.k))
    c.swap.ensures.items (omega (arith, c.swap.ensures.capacity)) c.self.invariant

pub returns : goal.returns
returns g c =
    let rows = c.self.inside.rows.items in
    let count : length rows ≡ sparse_rows c.args.self.now = sym (length-map rows (λ (r : Row). r.items)) ∙ ap sparse_rows c.self.view_is in
    ap (λ rs. roomy_table c.self.inside.width rs c.self.inside.row_room c.self.inside.column_room) c.swap.ensures.items
    ∙ ap (λ xs. let t : SparseTable = record {
      width = c.self.inside.width;
      rows = xs;
      row_room = c.self.inside.row_room;
      column_room = c.self.inside.column_room;
    } in t)
    (map-swap (λ (r : Row). r.items) rows c.args.i c.args.k (omega (arith, count, c.requires.i)) (omega (arith, count, c.requires.k)))
    ∙ ap (λ t. with_table_rows_swapped t c.args.i c.args.k) c.self.view_is
