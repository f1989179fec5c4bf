use Rattle.std.proofs.Common.{◌-◌, ap, sym, subst, ◌∙◌, arith}
use Rattle.sparse_q.specs.Tables.{SparseTable, without_table_row}
use Rattle.sparse_tableau.specs.Leaves.{IsRowReplaced}
use Rattle.sparse_tableau.proofs.LeaveLaws.{row-replaced}
use Rattle.sparse_tableau.proofs.leaving.swap_remove.Goals as goal

pub returns : goal.returns
returns g c =
    let last = c.rows-last.result - 1 in
    subst (λ (t : SparseTable). IsRowReplaced c.args.m.now t c.args.row)
    (sym (c.remove_row.ensures ∙ ap (λ (t : SparseTable). without_table_row t last) c.swap_rows.ensures))
    (row-replaced c.args.m.now c.args.row last c.requires (omega (arith, c.rows-last.ensures.rows, c.requires)))
