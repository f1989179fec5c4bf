use Rattle.std.proofs.Common.{rules, ℕ, List, ◌≡◌, ◌<◌, ◌++◌, ◌∷◌, ◌∙◌, [], length, ap, sym, vec_capacity, arith}
use Rattle.std.specs.List.{remove}
use Rattle.std.proofs.lemmas.List.{length-map}
use Rattle.sparse_q.specs.Rows.{Row}
use Rattle.sparse_q.specs.Tables.{SparseTable, sparse_rows, without_table_row}
use Rattle.sparse_q.proofs.EditLaws.{map-remove}
use Rattle.sparse_q.proofs.TableLaws.{roomy_table}
use Rattle.sparse_q.proofs.ShelfLaws.{row-out, row-gone}
use Rattle.sparse_q.proofs.matrix.SparseMat.remove_row.Goals.{in-Err-1, in-Ok-1}
use Rattle.sparse_q.proofs.matrix.SparseMat.remove_row.Goals as goal

pub invariant_of-self-then-len-self-2 : goal.invariant_of-self-then-len-self-2
invariant_of-self-then-len-self-2 g c =
    let rows = c.self.inside.rows.items in
    let count : length rows ≡ sparse_rows c.args.self.now = sym (length-map rows (λ (r : Row). r.items)) ∙ ap sparse_rows c.self.view_is in
    let fits : length c.self.inside.shelf.items < vec_capacity c.self.inside.shelf =
    omega (arith, c.if-len-self.true, c.len.ensures, c.self.inside.shelf.ok.0, c.self.invariant.1.shelf_fits) in
    let put : c.push.new.self.items ≡ c.self.inside.shelf.items ++ c.remove-row.result ∷ [] = search rules in
    row-out c.self.inside.width c.self.inside.spare.width c.self.inside.spare.room c.self.inside.row_room c.self.inside.column_room
    (vec_capacity c.self.inside.rows) (vec_capacity c.self.inside.shelf) rows c.self.inside.shelf.items c.self.invariant
    c.args.at c.remove-row.new.self.items c.push.new.self.items c.remove-row.result (vec_capacity c.remove-row.new.self)
    (vec_capacity c.push.new.self) (omega (arith, count, c.requires)) c.remove-row.ensures.items c.remove-row.ensures.value put
    (omega (arith, c.remove-row.ensures.capacity)) (omega (arith, c.push.ensures.capacity))

pub invariant_of-self-else-len-self : goal.invariant_of-self-else-len-self
invariant_of-self-else-len-self g c =
    let rows = c.self.inside.rows.items in
    let count : length rows ≡ sparse_rows c.args.self.now = sym (length-map rows (λ (r : Row). r.items)) ∙ ap sparse_rows c.self.view_is in
    row-gone c.self.inside.width c.self.inside.spare.width c.self.inside.spare.room c.self.inside.row_room c.self.inside.column_room
    (vec_capacity c.self.inside.rows) (vec_capacity c.self.inside.shelf) rows c.self.inside.shelf.items c.self.invariant
    c.args.at c.remove-row.new.self.items (vec_capacity c.remove-row.new.self) (omega (arith, count, c.requires))
    c.remove-row.ensures.items (omega (arith, c.if-len-self.false, c.len.ensures, c.self.inside.shelf.ok.0))
    (omega (arith, c.remove-row.ensures.capacity))

left : (w o v at : ℕ) (rows new : List Row) (m : SparseTable) → new ≡ remove rows at → roomy_table w rows o v ≡ m →
    roomy_table w new o v ≡ without_table_row m at
left w o v at rows new m is view =
    ap (λ rs. roomy_table w rs o v) is
    ∙ ap (λ xs. let t : SparseTable = record { width = w; rows = xs; row_room = o; column_room = v } in t)
    (map-remove (λ (r : Row). r.items) rows at)
    ∙ ap (λ t. without_table_row t at) view

pub returns-then-len-self : goal.returns-then-len-self
returns-then-len-self g c = elim c.match-push.branch [
  | in-Err-1 w ↦ w.self-is ∙ left c.self.inside.width c.self.inside.row_room c.self.inside.column_room c.args.at
      c.self.inside.rows.items c.remove-row.new.self.items c.args.self.now c.remove-row.ensures.items c.self.view_is
  | in-Ok-1 w ↦ w.self-is ∙ left c.self.inside.width c.self.inside.row_room c.self.inside.column_room c.args.at
      c.self.inside.rows.items c.remove-row.new.self.items c.args.self.now c.remove-row.ensures.items c.self.view_is
]

pub returns-else-len-self : goal.returns-else-len-self
returns-else-len-self g c = left c.self.inside.width c.self.inside.row_room c.self.inside.column_room c.args.at
    c.self.inside.rows.items c.remove-row.new.self.items c.args.self.now c.remove-row.ensures.items c.self.view_is
