use Rattle.std.proofs.Common.{◌∙◌, not, eqb, ap, sym, subst, IfNone}
use Rattle.residue_theory.specs.Ranges.{HasNone, IsLeast}
use Rattle.dense_q.specs.Tables.{entry}
use Rattle.row_entries.specs.Rows.{IsRising, IsEntryRow, has_number, items, number_at}
use Rattle.row_entries.proofs.TableLaws.{row-of, entry-of, least-told, none-told}
use Rattle.row_entries.proofs.matrix.EntryMat.next.Goals as goal

pub first_from-requires : goal.first_from-requires
first_from-requires g c =
    subst (λ es. IsRising (items g.F.Field.number es)) (sym c.deref.ensures.value)
    (row-of (λ row. items g.F.Field.number row.items) g.F.Field.modulus c.self.inside.width
    c.self.inside.rows.items c.args.self.now c.self.view_is c.self.invariant c.args.i
    c.index.result.now c.requires.row c.index.ensures).rising

pub returns-clause-least : goal.returns-clause-least
returns-clause-least g c =
    least-told (λ row. items g.F.Field.number row.items) g.F.Field.modulus c.self.inside.width
    c.self.inside.rows.items c.args.self.now c.self.view_is c.self.invariant c.args.i
    c.args.from c.in_ok-col.col c.index.result.now c.requires.row c.index.ensures
    (λ p w. subst (λ es. IsEntryRow p w (items g.F.Field.number es) →
    IsLeast (has_number (items g.F.Field.number es)) c.args.from w c.in_ok-col.col) c.deref.ensures.value
    (c.in_ok-col.ensures.least p w))

pub returns-clause-entry : goal.returns-clause-entry
returns-clause-entry g c =
    sym (entry-of (λ row. items g.F.Field.number row.items) g.F.Field.modulus c.self.inside.width
    c.self.inside.rows.items c.args.self.now c.self.view_is c.self.invariant c.args.i
    c.in_ok-col.col c.index.result.now c.requires.row c.index.ensures
    ∙ ap (λ es. number_at (items g.F.Field.number es) c.in_ok-col.col) (sym c.deref.ensures.value)
    ∙ c.in_ok-col.ensures.value)

pub returns-in_err-col-clause-none : goal.returns-in_err-col-clause-none
returns-in_err-col-clause-none g c =
    subst (λ r. IfNone r (HasNone (λ j. not (eqb (entry c.args.self.now c.args.i j) 0)) c.args.from c.args.self.now.width))
    (sym c.from_residual.ensures)
    (none-told (λ row. items g.F.Field.number row.items) g.F.Field.modulus c.self.inside.width
    c.self.inside.rows.items c.args.self.now c.self.view_is c.self.invariant c.args.i
    c.args.from c.index.result.now c.requires.row c.index.ensures
    (λ p w. subst (λ es. IsEntryRow p w (items g.F.Field.number es) → HasNone (has_number (items g.F.Field.number es)) c.args.from w)
    c.deref.ensures.value (c.in_err-col.ensures.none p w)))
