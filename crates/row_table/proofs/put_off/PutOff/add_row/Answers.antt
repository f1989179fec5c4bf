use Rattle.std.proofs.Common.{◌<◌, subst, sym}
use Rattle.row_table.specs.PutOffs.{Kept}
use Rattle.row_table.proofs.PutOffEdits.{row-added}
use Rattle.row_table.proofs.put_off.PutOff.add_row.Goals as goal

pub returns-clause-added : goal.returns-clause-added
returns-clause-added g c =
    rw (← c.self.view_is) (row-added g.F.Field.modulus (record {
      rows = c.self.inside.rows;
      columns = c.self.inside.columns;
      stored = c.self.inside.stored;
      factors = c.self.inside.factors;
      pending = c.self.inside.pending;
      count = c.self.inside.count;
    })
    c.add_row.new.self c.add_row-2.new.self c.args.target c.args.source _ c.self.invariant
    (subst (λ (d : Kept). c.args.target < d.rows) (sym c.self.view_is) c.requires.target)
    (subst (λ (d : Kept). c.args.source < d.rows) (sym c.self.view_is) c.requires.source)
    c.add_row.ensures.added c.add_row-2.ensures.added)
