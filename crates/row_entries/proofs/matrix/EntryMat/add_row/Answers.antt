use Rattle.std.proofs.Common.{◌∙◌, map, replicate, ap, subst, sym, arith}
use Rattle.std.proofs.lemmas.List.{length-map}
use Rattle.dense_q.specs.Tables.{Table, with_last_row}
use Rattle.row_entries.specs.Rows.{items}
use Rattle.row_entries.specs.Tables.{AreEntryRows, table_of}
use Rattle.row_entries.proofs.TableLaws.{added-stored, added-table, height-is, one_more}
use Rattle.row_entries.proofs.matrix.EntryMat.add_row.Goals as goal

pub invariant_of-self-2 : goal.invariant_of-self-2
invariant_of-self-2 g c =
    subst (AreEntryRows g.F.Field.modulus c.self.inside.width)
    (sym (one_more (λ row. items g.F.Field.number row.items) c.self.inside.rows.items c.push.new.self.items c.new.result
    c.in_ok-push.ensures.items (ap (items g.F.Field.number) c.new.ensures.items)))
    (added-stored g.F.Field.modulus c.self.inside.width _ c.self.invariant
    (omega (
      arith,
      c.requires,
      length-map c.self.inside.rows.items (λ row. items g.F.Field.number row.items),
      height-is (λ row. items g.F.Field.number row.items) g.F.Field.modulus c.self.inside.width c.self.inside.rows.items
          c.args.self.now c.self.view_is c.self.invariant,
    )))

pub returns-clause-ok : goal.returns-clause-ok
returns-clause-ok g c =
    ap (table_of c.self.inside.width)
    (one_more (λ row. items g.F.Field.number row.items) c.self.inside.rows.items c.push.new.self.items c.new.result
    c.in_ok-push.ensures.items (ap (items g.F.Field.number) c.new.ensures.items))
    ∙ added-table c.self.inside.width (map (λ row. items g.F.Field.number row.items) c.self.inside.rows.items)
    ∙ ap (λ (t : Table). with_last_row t (replicate t.width 0)) c.self.view_is
