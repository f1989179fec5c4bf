use Rattle.std.proofs.Common.{◌≡◌, arith, map, length, ap, sym, ◌∙◌}
use Rattle.std.proofs.lemmas.List.{length-map}
use Rattle.dense_q.specs.Tables.{Table, height}
use Rattle.dense_q.proofs.MadeLaws.{made_product}
use Rattle.dense_q.proofs.matrix.Mat.product.Goals as goal

pub returns : goal.returns
returns g c =
    let a : Table = record { width = c.a.inside.width; rows = map (λ row. map g.F.Field.number row.items) c.a.inside.rows.items } in
    let b : Table = record { width = c.b.inside.width; rows = map (λ row. map g.F.Field.number row.items) c.b.inside.rows.items } in
    let match : a.width ≡ height b = ap (λ (m : Table). m.width) c.a.view_is ∙ c.requires ∙ sym (ap height c.b.view_is) in
    let rows = ap (λ rs. map (λ row. map g.F.Field.number row.items) rs) c.deref-coefficients-items.ensures.value in
    rw (← c.a.view_is, ← c.b.view_is)
    (made_product g.F.Field.number g.F.Field.modulus a b c.loop-coefficients.coefficients-index _
    c.loop-coefficients.all.items rows match c.loop-coefficients.invariant.count
    (omega (
      arith,
      ap (λ rs. length rs) c.deref-coefficients-items.ensures.value,
      length-map c.a.inside.rows.items (λ row. map g.F.Field.number row.items),
    )) c.loop-coefficients.invariant.done)
