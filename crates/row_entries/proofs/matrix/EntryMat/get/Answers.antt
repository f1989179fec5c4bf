use Rattle.std.proofs.Common.{◌∙◌, ap, sym, subst}
use Rattle.row_entries.specs.Rows.{IsRising, items, number_at}
use Rattle.row_entries.proofs.TableLaws.{row-of, entry-of}
use Rattle.row_entries.proofs.matrix.EntryMat.get.Goals as goal

pub value_at-requires : goal.value_at-requires
value_at-requires g c =
    subst (λ es. IsRising (items g.F.Field.number es)) (sym c.deref.ensures.value)
    (row-of (λ row. items g.F.Field.number row.items) g.F.Field.modulus c.self.inside.width c.self.inside.rows.items
    c.args.self.now c.self.view_is c.self.invariant c.args.i c.index.result.now c.requires.row c.index.ensures).rising

pub returns : goal.returns
returns g c =
    c.value_at.ensures ∙ ap (λ es. number_at (items g.F.Field.number es) c.args.j) c.deref.ensures.value
    ∙ sym (entry-of (λ row. items g.F.Field.number row.items) g.F.Field.modulus c.self.inside.width
    c.self.inside.rows.items c.args.self.now c.self.view_is c.self.invariant c.args.i c.args.j c.index.result.now
    c.requires.row c.index.ensures)
