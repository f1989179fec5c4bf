use Rattle.std.proofs.Common.{slice_index_or, arith, ap}
use Rattle.std.proofs.lemmas.List.{with_items_is}
use Rattle.sparse_q.proofs.RowLaws.{scaled-step, scaled-kept, scaled-multiple}
use Rattle.sparse_q.proofs.row.SparseRow.scale.Goals as goal

pub loop-entry-preserved : goal.loop-entry-preserved
loop-entry-preserved g c =
    scaled-step (λ e. record { column = e.column; number = g.F.Field.number e.value }) g.F.Field.modulus
    (g.F.Field.number c.args.factor) c.deref_mut-entry-items.result.now c.loop-entry.entry-items
    c.loop-entry.entry-index
    c.entry-item.result _ c.loop-entry.invariant c.loop-entry-test.true
    (ap (λ n. record {
      column = (slice_index_or c.loop-entry.entry-items c.loop-entry.entry-index
          c.entry-item.result).column;
      number = n;
    }) c.mul-entry.ensures)

pub invariant_of-self : goal.invariant_of-self
invariant_of-self g c = (
  scaled-kept (λ e. record { column = e.column; number = g.F.Field.number e.value }) g.F.Field.modulus
      (g.F.Field.number c.args.factor) g.met.F.Field.prime c.requires c.in_field.ensures c.self.inside.width _
      c.self.inside.entries.items c.deref_mut-entry-items.result.now c.loop-entry.entry-items c.loop-entry.entry-index
      c.self.invariant.0 c.deref_mut-entry-items.ensures.value c.loop-entry.invariant c.loop-entry-test.false
      _ (with_items_is c.self.inside.entries c.loop-entry.entry-items
      (omega (arith, c.loop-entry.auto.entry-items, c.deref_mut-entry-items.ensures.len))),
  c.self.invariant.1,
)

pub returns-clause-multiple : goal.returns-clause-multiple
returns-clause-multiple g c =
    scaled-multiple (λ e. record { column = e.column; number = g.F.Field.number e.value }) g.F.Field.modulus
    (g.F.Field.number c.args.factor) g.met.F.Field.prime c.requires c.in_field.ensures c.self.inside.width _
    c.self.inside.entries.items c.deref_mut-entry-items.result.now c.loop-entry.entry-items c.loop-entry.entry-index
    c.self.invariant.0 c.deref_mut-entry-items.ensures.value c.loop-entry.invariant c.loop-entry-test.false
    _ _ _ c.self.view_is (with_items_is c.self.inside.entries c.loop-entry.entry-items
    (omega (arith, c.loop-entry.auto.entry-items, c.deref_mut-entry-items.ensures.len)))
