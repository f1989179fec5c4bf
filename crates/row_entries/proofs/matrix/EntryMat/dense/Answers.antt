use Rattle.std.proofs.Common.{◌∙◌, map, length, ap, subst, sym, arith}
use Rattle.std.proofs.lemmas.List.{take_all, length-map}
use Rattle.dense_q.specs.Tables.{Table}
use Rattle.row_entries.specs.Rows.{IsRising, items}
use Rattle.row_entries.specs.Tables.{numbers_of, table_of}
use Rattle.row_entries.proofs.TableLaws.{row-kept, table-more, table-room, numbers-length}
use Rattle.row_entries.proofs.matrix.EntryMat.dense.Goals as goal

pub loop-row-init : goal.loop-row-init
loop-row-init g c = c.in_ok-m.ensures

pub values_of-requires : goal.values_of-requires
values_of-requires g c =
    subst (λ es. IsRising (items g.F.Field.number es)) (sym c.deref.ensures.value)
    (row-kept (λ row. items g.F.Field.number row.items) g.F.Field.modulus c.self.inside.width c.self.inside.rows.items
    c.deref-row-items.result.now c.loop-row.row-index c.row-item.result c.self.invariant c.deref-row-items.ensures.value
    c.loop-row-test.true c.row-item.is).rising

pub push_row-requires-clause-width : goal.push_row-requires-clause-width
push_row-requires-clause-width g c =
    ap length c.deref-in-loop-row.ensures.value ∙ sym (length-map c.in_ok-values_of.field-0.items g.F.Field.number)
    ∙ ap length c.in_ok-values_of.ensures ∙ numbers-length c.self.inside.width _
    ∙ sym (ap (λ (m : Table). m.width) c.loop-row.invariant)

pub push_row-requires-clause-room : goal.push_row-requires-clause-room
push_row-requires-clause-room g c =
    omega (
      arith,
      table-room (λ row. items g.F.Field.number row.items) c.self.inside.width c.loop-row.row-index c.deref-row-items.result.now c.loop-row.m
          c.loop-row-test.true c.loop-row.invariant,
      c.loop-row-test.true,
      ap length c.deref-row-items.ensures.value,
      length-map c.self.inside.rows.items (λ row. items g.F.Field.number row.items),
      c.self.invariant.few,
    )

pub loop-row-preserved : goal.loop-row-preserved
loop-row-preserved g c =
    table-more (λ row. items g.F.Field.number row.items) c.self.inside.width c.loop-row.row-index c.deref-row-items.result.now c.row-item.result
    c.loop-row.m c.push_row.new.self (map g.F.Field.number c.deref-in-loop-row.result.now) c.loop-row-test.true
    c.loop-row.invariant c.row-item.is
    (ap (map g.F.Field.number) c.deref-in-loop-row.ensures.value ∙ c.in_ok-values_of.ensures
    ∙ ap (λ es. numbers_of c.self.inside.width (items g.F.Field.number es)) c.deref.ensures.value)
    c.in_ok-push_row.ensures.ok

pub returns : goal.returns
returns g c =
    c.loop-row.invariant
    ∙ ap (table_of c.self.inside.width)
    (take_all c.loop-row.row-index (map (λ row. items g.F.Field.number row.items) c.deref-row-items.result.now)
    (omega (arith, c.loop-row-test.false, length-map c.deref-row-items.result.now (λ row. items g.F.Field.number row.items)))
    ∙ ap (map (λ row. items g.F.Field.number row.items)) c.deref-row-items.ensures.value) ∙ c.self.view_is
