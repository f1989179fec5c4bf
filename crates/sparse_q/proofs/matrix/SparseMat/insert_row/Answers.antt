use Rattle.std.proofs.Common.{rules, ◌≡◌, ◌<◌, ◌++◌, ◌∷◌, ◌∙◌, [], length, map, ap, sym, vec_capacity, arith}
use Rattle.std.specs.List.{insert}
use Rattle.std.proofs.lemmas.List.{length-map}
use Rattle.sparse_q.specs.Rows.{Row}
use Rattle.sparse_q.specs.Tables.{SparseTable, sparse_rows, with_empty_row}
use Rattle.sparse_q.proofs.EditLaws.{map-insert}
use Rattle.sparse_q.proofs.TableLaws.{roomy_table}
use Rattle.sparse_q.proofs.ShelfLaws.{row-in}
use Rattle.sparse_q.proofs.matrix.SparseMat.insert_row.Goals as goal

pub invariant_of-self : goal.invariant_of-self
invariant_of-self g c =
    let rows = c.self.inside.rows.items in
    let count : length rows ≡ sparse_rows c.args.self.now = sym (length-map rows (λ (r : Row). r.items)) ∙ ap sparse_rows c.self.view_is in
    let popped : c.self.inside.shelf.items ≡ c.pop.new.self.items ++ c.unwrap-row.result ∷ [] = search rules in
    let fits : length rows < vec_capacity c.self.inside.rows =
    omega (arith, count, c.requires.rows, ap (λ (t : SparseTable). t.row_room) c.self.view_is, c.self.invariant.1.rows_fit) in
    let is : c.insert.new.self.items ≡ insert rows c.args.at c.reset.new.self = search rules in
    row-in c.self.inside.width c.self.inside.spare.width c.self.inside.spare.room c.self.inside.row_room c.self.inside.column_room
    (vec_capacity c.self.inside.rows) (vec_capacity c.self.inside.shelf) rows c.self.inside.shelf.items c.self.invariant
    c.args.at c.insert.new.self.items c.pop.new.self.items c.unwrap-row.result c.reset.new.self
    (vec_capacity c.insert.new.self) (vec_capacity c.pop.new.self) (omega (arith, count, c.requires.at)) (omega (arith, count, c.requires.few))
    is popped (ap (λ (r : Row). r.width) c.reset.ensures) (ap (λ (r : Row). r.room) c.reset.ensures)
    c.insert.ensures.capacity (omega (arith, c.pop.ensures.capacity))

pub returns : goal.returns
returns g c =
    let rows = c.self.inside.rows.items in
    let count : length rows ≡ sparse_rows c.args.self.now = sym (length-map rows (λ (r : Row). r.items)) ∙ ap sparse_rows c.self.view_is in
    let fits : length rows < vec_capacity c.self.inside.rows =
    omega (arith, count, c.requires.rows, ap (λ (t : SparseTable). t.row_room) c.self.view_is, c.self.invariant.1.rows_fit) in
    let is : c.insert.new.self.items ≡ insert rows c.args.at c.reset.new.self = search rules in
    ap (λ rs. roomy_table c.self.inside.width rs c.self.inside.row_room c.self.inside.column_room) is
    ∙ ap (λ xs. let t : SparseTable = record {
      width = c.self.inside.width;
      rows = xs;
      row_room = c.self.inside.row_room;
      column_room = c.self.inside.column_room;
    } in t)
    (map-insert (λ (r : Row). r.items) rows c.args.at c.reset.new.self
    ∙ ap (λ (r : Row). insert (map (λ (r : Row). r.items) rows) c.args.at r.items) c.reset.ensures)
    ∙ ap (λ t. with_empty_row t c.args.at) c.self.view_is
