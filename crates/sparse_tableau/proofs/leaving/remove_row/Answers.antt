use Rattle.std.proofs.Common.{sym, subst}
use Rattle.sparse_q.specs.Tables.{SparseTable}
use Rattle.sparse_tableau.specs.Leaves.{IsRowGone}
use Rattle.sparse_tableau.proofs.LeaveLaws.{row-gone}
use Rattle.sparse_tableau.proofs.leaving.remove_row.Goals as goal

pub returns : goal.returns
returns g c = subst (λ (t : SparseTable). IsRowGone c.args.m.now t c.args.row) (sym c.remove_row.ensures)
    (row-gone c.args.m.now c.args.row c.requires)
