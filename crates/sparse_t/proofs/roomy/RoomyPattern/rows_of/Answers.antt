use Rattle.std.proofs.Common.{sym, subst}
use Rattle.sparse_t.specs.Incidences.{AreRowsAt}
use Rattle.sparse_t.proofs.EditLaws.{rows_of-seen}
use Rattle.sparse_t.proofs.roomy.RoomyPattern.rows_of.Goals as goal

pub returns : goal.returns
returns c = subst (AreRowsAt c.args.self.now.pattern c.args.col) (sym c.list.ensures)
    (rows_of-seen c.self.inside.rows c.self.inside.columns c.self.inside.row_room c.self.inside.column_room c.args.self.now c.args.col
    c.self.invariant c.self.view_is c.requires)
