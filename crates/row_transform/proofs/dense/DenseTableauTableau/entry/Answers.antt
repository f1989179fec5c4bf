use Rattle.std.proofs.Common.{◌%◌, ap, sym, ◌∙◌}
use Rattle.std.proofs.Math.Nat.{mod-eq_of_lt}
use Rattle.sparse_q.specs.Tables.{sparse_rows}
use Rattle.row_table.specs.RowTables.{Combined, entries}
use Rattle.row_table.proofs.RowTableLaws.{part-within}
use Rattle.row_transform.specs.Dense.{Dense}
use Rattle.row_transform.proofs.dense.DenseTableauTableau.entry.Goals as goal

pub returns : goal.returns
returns g c =
    let p = g.F.Field.modulus in
    let row = c.args.row in
    let col = c.args.col in
    let t : Combined = c.args.self.now.table in
    sym (mod-eq_of_lt c.in_field.ensures) ∙ ap (λ y. y % p) (c.entry-entry.ensures
    ∙ ap (λ (d : Dense). entries p d.table row col) c.self.view_is
    ∙ sym (part-within row (sparse_rows t.q) col t.q.width (entries p t row col) c.requires.row c.requires.col))
