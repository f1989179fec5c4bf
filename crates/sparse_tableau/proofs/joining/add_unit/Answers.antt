use Rattle.std.proofs.Common.{subst, cond, eqb}
use Rattle.sparse_q.specs.Tables.{number_in, IsRowSet}
use Rattle.sparse_tableau.specs.Joins.{IsEmptyRowIn}
use Rattle.sparse_tableau.proofs.JoinLaws.{unit-in}
use Rattle.sparse_tableau.proofs.joining.add_unit.Goals as goal

pub returns : goal.returns
returns g c =
    let b = c.add_empty_column.new.m in
    let d = c.add_empty_row.new.m in
    unit-in c.args.m.now b d c.put.new.self c.args.at (g.F.Field.number c.one.result) c.add_empty_column.ensures
    (subst (λ l. IsEmptyRowIn b d l) c.rows-last.ensures.rows c.add_empty_row.ensures) c.one.ensures
    (subst (λ l. IsRowSet d c.put.new.self l (λ j. cond (eqb j c.args.at) (g.F.Field.number c.one.result) (number_in d l j)))
    c.rows-last.ensures.rows c.put.ensures)
