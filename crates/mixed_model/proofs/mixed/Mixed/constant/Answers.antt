use Rattle.std.proofs.Common.{subst, sym}
use Rattle.std.specs.Prelude.{All}
use Rattle.mixed_model.specs.Rows.{IsRow}
use Rattle.mixed_model.proofs.ModelLaws.{rows_are_rows}
use Rattle.mixed_model.proofs.mixed.Mixed.constant.Goals as goal

pub entry_in_row-requires-clause-rows : goal.entry_in_row-requires-clause-rows
entry_in_row-requires-clause-rows g c =
    subst (All (λ row. IsRow g.F.Field.modulus row.items)) (sym c.deref.ensures.value)
    (rows_are_rows g.F.Field.modulus c.self.inside.rows.items _ c.self.invariant.rows)
