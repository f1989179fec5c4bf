use Rattle.std.proofs.Common.{◌∙◌, ap, subst, sym}
use Rattle.row_entries.specs.Rows.{items}
use Rattle.row_entries.specs.Tables.{AreEntryRows, table_of}
use Rattle.row_entries.proofs.TableLaws.{taken-more, taken-all}
use Rattle.row_entries.proofs.matrix.EntryMat.copy.Goals as goal

pub loop-row-preserved : goal.loop-row-preserved
loop-row-preserved g c =
    taken-more (λ row. items g.F.Field.number row.items) c.deref-row-items.result.now c.loop-row.rows.items c.push.new.self.items
    c.loop-row.row-index _ c.row-item.result c.loop-row-test.true c.loop-row.invariant c.in_ok-push.ensures.items
    c.row-item.is (ap (items g.F.Field.number) (c.in_ok-from_slice.ensures.items ∙ c.deref.ensures.value))

pub invariant_of-result : goal.invariant_of-result
invariant_of-result g c =
    subst (AreEntryRows g.F.Field.modulus c.self.inside.width)
    (sym (taken-all (λ row. items g.F.Field.number row.items) c.self.inside.rows.items c.deref-row-items.result.now c.loop-row.rows.items
    c.loop-row.row-index c.deref-row-items.ensures.value c.loop-row-test.false c.loop-row.invariant)) c.self.invariant

pub returns : goal.returns
returns g c =
    ap (table_of c.self.inside.width)
    (taken-all (λ row. items g.F.Field.number row.items) c.self.inside.rows.items c.deref-row-items.result.now c.loop-row.rows.items
    c.loop-row.row-index c.deref-row-items.ensures.value c.loop-row-test.false c.loop-row.invariant) ∙ c.self.view_is
