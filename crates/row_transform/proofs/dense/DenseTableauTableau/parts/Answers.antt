use Rattle.row_transform.proofs.DenseLaws.{parts-are}
use Rattle.row_transform.proofs.dense.DenseTableauTableau.parts.Goals as goal

pub returns : goal.returns
returns g c = rw (← c.self.view_is) (parts-are g.F.Field.modulus
    (record {
      table = c.self.inside.table;
      base = c.self.inside.base;
      row_room = c.self.inside.row_room;
      column_room = c.self.inside.column_room;
    }) c.in_ok-s.field-0 c.in_ok-u.field-0
    c.in_ok-p.field-0 c.in_ok-s.ensures c.in_ok-u.ensures c.in_ok-p.ensures)
