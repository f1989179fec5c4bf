use Rattle.std.proofs.Common.{sym, subst}
use Rattle.sparse_q.specs.Tables.{SparseTable}
use Rattle.sparse_tableau.specs.Joins.{IsEmptyRowIn}
use Rattle.sparse_tableau.proofs.JoinLaws.{empty_row-in}
use Rattle.sparse_tableau.proofs.joining.add_empty_row.Goals as goal

pub returns : goal.returns
returns g c = subst (λ (t : SparseTable). IsEmptyRowIn c.args.m.now t c.args.at) (sym c.insert_row.ensures)
    (empty_row-in c.args.m.now c.args.at c.requires.at)
