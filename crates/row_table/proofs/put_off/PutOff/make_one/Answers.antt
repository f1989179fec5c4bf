use Rattle.std.proofs.Common.{◌<◌, refl, sym, subst, ◌∙◌}
use Rattle.row_table.specs.PutOffs.{Kept}
use Rattle.row_table.proofs.PutOffLaws.{made-same}
use Rattle.row_table.proofs.put_off.PutOff.make_one.Goals as goal

pub returns-clause-same : goal.returns-clause-same
returns-clause-same g c =
    let i = c.args.i in
    let waits : c.args.t < c.self.inside.count = subst (λ (d : Kept). c.args.t < d.count) (sym c.self.view_is)
    c.requires.waits in
    rw (← c.self.view_is) (made-same g.F.Field.modulus (record {
      rows = c.self.inside.rows;
      columns = c.self.inside.columns;
      stored = c.self.inside.stored;
      factors =
          c.self.inside.factors;
      pending = c.self.inside.pending;
      count = c.self.inside.count;
    })
    (record {
      rows = c.self.inside.rows;
      columns = c.self.inside.columns;
      stored = c.add_row_of.new.self;
      factors = c.put.new.m;
      pending = c.self.inside.pending;
      count =
          c.self.inside.count;
    })
    i c.args.t _ c.self.invariant.columns_fit waits c.get-factor.ensures refl refl c.add_row_of.ensures.changed c.add_row_of.ensures.others
    (c.put.ensures.here ∙ c.zero.ensures) c.put.ensures.other_rows c.put.ensures.other_columns)
