use Rattle.std.proofs.Common.{◌<◌, ap, subst, sym, ◌∙◌}
use Rattle.sparse_q.specs.Rows.{Row}
use Rattle.sparse_q.proofs.MadeLaws.{put-narrow, put-entry}
use Rattle.sparse_q.proofs.row.SparseRow.put_into.Goals as goal

pub set-requires-clause-col : goal.set-requires-clause-col
set-requires-clause-col g c =
    subst (λ w. c.entry-item.result.column < w) (sym c.loop-entry.invariant.size.width_same)
    (put-narrow (λ e. record { column = e.column; number = g.F.Field.number e.value }) g.F.Field.modulus
    c.self.inside.width c.args.m.now c.self.inside.entries.items c.deref-entry-items.result.now
    c.loop-entry.entry-index
    c.entry-item.result c.self.invariant.0.row (ap (λ (r : Row). r.width) c.self.view_is ∙ c.requires.width)
    c.deref-entry-items.ensures.value c.loop-entry-test.true c.entry-item.is)

pub loop-entry-preserved : goal.loop-entry-preserved
loop-entry-preserved g c =
    put-entry (λ e. record { column = e.column; number = g.F.Field.number e.value }) g.F.Field.modulus
    c.self.inside.width c.args.m.now c.self.inside.entries.items c.deref-entry-items.result.now
    c.loop-entry.entry-index
    c.entry-item.result c.self.invariant.0.row (ap (λ (r : Row). r.width) c.self.view_is ∙ c.requires.width)
    c.deref-entry-items.ensures.value c.loop-entry-test.true c.entry-item.is
    c.args.i c.loop-entry.m c.set.new.self c.requires.row c.loop-entry.invariant c.set.ensures
