use Rattle.std.proofs.Common.{map, slice_index, ap, subst, sym, arith}
use Rattle.row_table.specs.PutOffs.{Kept, IsSettled}
use Rattle.row_table.proofs.PutOffLaws.{change-here, change-others}
use Rattle.row_table.proofs.put_off.PutOff.put_change.Goals as goal

pub returns-clause-here : goal.returns-clause-here
returns-clause-here g c =
    let settled : IsSettled (record {
      rows = c.self.inside.rows;
      columns = c.self.inside.columns;
      stored = c.self.inside.stored;
      factors = c.self.inside.factors;
      pending =
          c.self.inside.pending;
      count = c.self.inside.count;
    }) c.args.r =
    subst (λ (d : Kept). IsSettled d c.args.r) (sym c.self.view_is) c.requires.settled in
    rw (← c.self.view_is) (λ j jl. change-here g.F.Field.modulus (record {
      rows = c.self.inside.rows;
      columns = c.self.inside.columns;
      stored = c.self.inside.stored;
      factors =
          c.self.inside.factors;
      pending = c.self.inside.pending;
      count = c.self.inside.count;
    })
    c.put_column.new.m c.put.new.m c.copy_row_of.new.self c.args.r
    (λ i. slice_index (map g.F.Field.number c.args.factors.now) i) _ settled
    c.copy_row_of.ensures.changed c.copy_row_of.ensures.others
    (λ k kl. c.put_column.ensures.put k (omega (arith, kl, c.requires.length, ap (λ (d : Kept). d.rows) c.self.view_is)))
    c.put_column.ensures.others
    c.zero.ensures c.put.ensures.here c.put.ensures.other_rows c.put.ensures.other_columns j)

pub returns-clause-others : goal.returns-clause-others
returns-clause-others g c =
    let settled : IsSettled (record {
      rows = c.self.inside.rows;
      columns = c.self.inside.columns;
      stored = c.self.inside.stored;
      factors = c.self.inside.factors;
      pending =
          c.self.inside.pending;
      count = c.self.inside.count;
    }) c.args.r =
    subst (λ (d : Kept). IsSettled d c.args.r) (sym c.self.view_is) c.requires.settled in
    rw (← c.self.view_is) (λ i j il jl ne. change-others g.F.Field.modulus (record {
      rows = c.self.inside.rows;
      columns = c.self.inside.columns;
      stored = c.self.inside.stored;
      factors = c.self.inside.factors;
      pending = c.self.inside.pending;
      count = c.self.inside.count;
    })
    c.put_column.new.m c.put.new.m c.copy_row_of.new.self c.args.r
    (λ i. slice_index (map g.F.Field.number c.args.factors.now) i) _ settled
    c.copy_row_of.ensures.changed c.copy_row_of.ensures.others
    (λ k kl. c.put_column.ensures.put k (omega (arith, kl, c.requires.length, ap (λ (d : Kept). d.rows) c.self.view_is)))
    c.put_column.ensures.others
    c.zero.ensures c.put.ensures.here c.put.ensures.other_rows c.put.ensures.other_columns
    i j il ne)
