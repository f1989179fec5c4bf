use Rattle.std.proofs.Common.{◌≡◌, ◌∙◌, ap, sym, subst}
use Rattle.row_entries.specs.Rows.{IsEntryRow, items, number_at}
use Rattle.row_entries.proofs.TableLaws.{row-of, entry-of}
use Rattle.row_entries.proofs.matrix.EntryMat.row.Goals as goal

pub returns-clause-row : goal.returns-clause-row
returns-clause-row g c =
    subst (λ es. IsEntryRow g.F.Field.modulus c.args.self.now.width (items g.F.Field.number es)) (sym c.deref.ensures.value)
    (subst (λ w. IsEntryRow g.F.Field.modulus w (items g.F.Field.number c.index.result.now.items))
    (ap (λ t. t.width) c.self.view_is)
    (row-of (λ row. items g.F.Field.number row.items) g.F.Field.modulus c.self.inside.width c.self.inside.rows.items
    c.args.self.now c.self.view_is c.self.invariant c.args.i c.index.result.now c.requires c.index.ensures))

pub returns-clause-numbers : goal.returns-clause-numbers
returns-clause-numbers g c j =
    ap (λ es. number_at (items g.F.Field.number es) j) c.deref.ensures.value
    ∙ sym (entry-of (λ row. items g.F.Field.number row.items) g.F.Field.modulus c.self.inside.width
    c.self.inside.rows.items c.args.self.now c.self.view_is c.self.invariant c.args.i j c.index.result.now
    c.requires c.index.ensures)
