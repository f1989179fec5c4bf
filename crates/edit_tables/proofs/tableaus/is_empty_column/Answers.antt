use Rattle.std.proofs.Common.{arith}
use Rattle.row_transform.proofs.EntryLaws.{zero_of}
use Rattle.edit_tables.proofs.EmptyColumns.{empty-back}
use Rattle.edit_tables.proofs.tableaus.is_empty_column.Goals as goal

pub returns-in-None : goal.returns-in-None
returns-in-None g c =
    let t = g.T.Tableau.state c.args.t.now in
    λ _. empty-back g.F.Field.modulus g.met.F.Field.prime t c.is_tableau.ensures.tableau c.args.column c.requires
    (λ i il. zero_of _ (c.in-None.ensures.none i (omega (arith)) il))
