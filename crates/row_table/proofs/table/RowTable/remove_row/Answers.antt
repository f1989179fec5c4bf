use Rattle.std.proofs.Common.{◌<◌, sym, subst}
use Rattle.sparse_q.specs.Tables.{SparseTable}
use Rattle.row_table.proofs.TableSteps.{out-after}
use Rattle.row_table.proofs.table.RowTable.remove_row.Goals as goal

pub returns-clause-row : goal.returns-clause-row
returns-clause-row g c =
    out-after g.F.Field.modulus c.args.self.now c.clear.new.self c.take_out.new.self c.args.at c.args.row c.requires.row
    c.clear.ensures.q c.clear.ensures.basic c.clear.ensures.columns_stay c.clear.ensures.rows_stay c.take_out.ensures.row
    (λ i j il jl. c.take_out.ensures.entries i j il (subst (λ (s : SparseTable). j < s.width) (sym c.clear.ensures.q) jl))
