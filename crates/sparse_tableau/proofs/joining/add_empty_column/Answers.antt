use Rattle.std.proofs.Common.{sym, subst}
use Rattle.sparse_q.specs.Tables.{SparseTable}
use Rattle.sparse_tableau.specs.Joins.{IsEmptyColumnIn}
use Rattle.sparse_tableau.proofs.JoinLaws.{empty_column-in}
use Rattle.sparse_tableau.proofs.joining.add_empty_column.Goals as goal

pub returns : goal.returns
returns g c = subst (λ (t : SparseTable). IsEmptyColumnIn c.args.m.now t c.args.at) (sym c.insert_column.ensures)
    (empty_column-in c.args.m.now c.args.at)
