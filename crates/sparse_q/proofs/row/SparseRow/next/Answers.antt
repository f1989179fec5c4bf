use Rattle.std.proofs.Common.{sym, subst, IfNone}
use Rattle.residue_theory.specs.Ranges.{HasNone, IsLeast}
use Rattle.row_entries.specs.Rows.{items}
use Rattle.sparse_q.specs.Rows.{Row, IsRising, IsEntryRow, has_number}
use Rattle.sparse_q.proofs.row.SparseRow.next.Goals as goal

pub first_from-requires : goal.first_from-requires
first_from-requires g c =
    subst (λ es. IsRising (items g.F.Field.number es)) (sym c.deref.ensures.value) c.self.invariant.0.row.rising

pub returns-in_err-column-clause-none : goal.returns-in_err-column-clause-none
returns-in_err-column-clause-none g c =
    subst (λ r. IfNone r (HasNone (has_number c.args.self.now.items) c.args.from c.args.self.now.width))
    (sym c.from_residual.ensures)
    (subst (λ (r : Row). HasNone (has_number r.items) c.args.from r.width) c.self.view_is
    (subst (λ es. HasNone (has_number (items g.F.Field.number es)) c.args.from c.self.inside.width) c.deref.ensures.value
    (c.in_err-column.ensures.none g.F.Field.modulus c.self.inside.width
    (subst (λ es. IsEntryRow g.F.Field.modulus c.self.inside.width (items g.F.Field.number es)) (sym c.deref.ensures.value)
    c.self.invariant.0.row))))

pub returns-clause-least : goal.returns-clause-least
returns-clause-least g c =
    subst (λ (r : Row). IsLeast (has_number r.items) c.args.from r.width c.in_ok-column.column) c.self.view_is
    (subst (λ es. IsLeast (has_number (items g.F.Field.number es)) c.args.from c.self.inside.width c.in_ok-column.column)
    c.deref.ensures.value
    (c.in_ok-column.ensures.least g.F.Field.modulus c.self.inside.width
    (subst (λ es. IsEntryRow g.F.Field.modulus c.self.inside.width (items g.F.Field.number es)) (sym c.deref.ensures.value)
    c.self.invariant.0.row)))
