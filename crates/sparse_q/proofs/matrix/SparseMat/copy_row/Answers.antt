use Rattle.std.proofs.Common.{ap, ◌∙◌}
use Rattle.sparse_q.specs.Rows.{Row, number_at}
use Rattle.sparse_q.specs.Tables.{number_in}
use Rattle.sparse_q.proofs.TableLaws.{row-at, row-set}
use Rattle.sparse_q.proofs.matrix.SparseMat.copy_row.Goals as goal

pub returns : goal.returns
returns g c =
    row-set c.self.inside.width c.self.inside.rows.items c.args.self.now c.self.view_is c.args.i c.requires.target
    c.set.new.self (number_in c.args.other.now c.args.t)
    (λ j. ap (λ (r : Row). number_at r.items j) c.set.ensures ∙ row-at c.other.inside.width c.other.inside.rows.items
    c.args.other.now c.other.view_is c.args.t c.requires.source c.index.result.now c.index.ensures j)
