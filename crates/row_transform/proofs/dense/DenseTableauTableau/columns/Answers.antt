use Rattle.row_transform.proofs.DenseLaws.{dense-tableau}
use Rattle.row_transform.proofs.dense.DenseTableauTableau.columns.Goals as goal

pub returns-clause-tableau : goal.returns-clause-tableau
returns-clause-tableau g c = rw (← c.self.view_is) (dense-tableau g.F.Field.modulus
    (record {
      table = c.self.inside.table;
      base = c.self.inside.base;
      row_room = c.self.inside.row_room;
      column_room = c.self.inside.column_room;
    }) c.columns.ensures.combined c.self.invariant.0)
