use Rattle.std.proofs.Common.{◌∙◌, ap, sym, subst}
use Rattle.row_entries.specs.Rows.{items}
use Rattle.sparse_q.specs.Rows.{Row, IsRising, number_at}
use Rattle.sparse_q.proofs.row.SparseRow.at.Goals as goal

pub value_at-requires : goal.value_at-requires
value_at-requires g c =
    subst (λ es. IsRising (items g.F.Field.number es)) (sym c.deref.ensures.value) c.self.invariant.0.row.rising

pub returns : goal.returns
returns g c =
    c.value_at.ensures ∙ ap (λ es. number_at (items g.F.Field.number es) c.args.column) c.deref.ensures.value
    ∙ ap (λ (r : Row). number_at r.items c.args.column) c.self.view_is
