use Rattle.mixed_model.proofs.ModelLaws.{rows_are_rows}
use Rattle.mixed_model.proofs.mixed.Mixed.set_place.Goals as goal

pub set_in_row-requires-clause-rows : goal.set_in_row-requires-clause-rows
set_in_row-requires-clause-rows g c = rows_are_rows g.F.Field.modulus c.self.inside.rows.items _ c.self.invariant.rows
