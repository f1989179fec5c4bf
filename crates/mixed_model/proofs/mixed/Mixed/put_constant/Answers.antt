use Rattle.mixed_model.proofs.ModelLaws.{rows_are_rows}
use Rattle.mixed_model.proofs.mixed.Mixed.put_constant.Goals as goal

pub put_constant_in_row-requires-clause-rows : goal.put_constant_in_row-requires-clause-rows
put_constant_in_row-requires-clause-rows g c = rows_are_rows g.F.Field.modulus c.self.inside.rows.items _ c.self.invariant.rows
