use Rattle.std.proofs.Common.{◌≡◌, ◌<◌, subst, sym, true, false, length, refl, ◌∙◌, arith}
use Rattle.sparse_q.specs.Rows.{Row, EndsBefore}
use Rattle.sparse_q.proofs.RowLaws.{kept-room, kept-pushed}
use Rattle.sparse_q.proofs.row.SparseRow.push.Goals as goal

differ : false ≡ true → ⊥
differ e = cc

pub push_reserved-requires : goal.push_reserved-requires
push_reserved-requires g c =
    let l : length c.self.inside.entries.items < c.self.inside.room =
    kept-room (λ e. record { column = e.column; number = g.F.Field.number e.value }) g.F.Field.modulus
    c.self.inside.width _ c.self.inside.entries.items c.self.invariant.0 c.args.column
    (subst (λ (r : Row). EndsBefore r.items c.args.column) (sym c.self.view_is) c.requires.behind)
    (subst (λ (r : Row). c.args.column < r.width) (sym c.self.view_is) c.requires.narrow) in
    omega (arith, l, c.self.invariant.1, c.self.inside.entries.ok.0)

pub invariant_of-self : goal.invariant_of-self
invariant_of-self g c = (
  kept-pushed (λ e. record { column = e.column; number = g.F.Field.number e.value }) g.F.Field.modulus
      c.self.inside.width _ c.self.inside.entries.items c.self.invariant.0
      _ c.push_reserved.new.self.items _ c.push_reserved.ensures.items refl
      (subst (λ (r : Row). EndsBefore r.items c.args.column) (sym c.self.view_is) c.requires.behind)
      (subst (λ (r : Row). c.args.column < r.width) (sym c.self.view_is) c.requires.narrow)
      (λ z. differ (sym c.if-not-is_zero.true ∙ c.is_zero.ensures.1 z)) c.in_field.ensures,
  omega (arith, c.self.invariant.1, c.push_reserved.ensures.capacity),
)
