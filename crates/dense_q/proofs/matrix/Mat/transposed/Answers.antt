use Rattle.std.proofs.Common.{arith, map, length, slice_index_or, [], ap, ◌∙◌}
use Rattle.std.proofs.lemmas.List.{length-map}
use Rattle.dense_q.proofs.MadeLaws.{made, column-at}
use Rattle.dense_q.proofs.matrix.Mat.transposed.Goals as goal

pub returns : goal.returns
returns g c =
    let rows = map (λ row. map g.F.Field.number row.items) c.self.inside.rows.items in
    rw (← c.self.view_is) (made g.F.Field.number c.self.inside.width (length rows) c.len.result c.loop-j.j
    (λ i j. slice_index_or (slice_index_or rows j []) i 0) c.loop-j.all.items
    (omega (
      arith,
      c.len.ensures,
      c.self.inside.rows.ok.0,
      length-map c.self.inside.rows.items (λ row. map g.F.Field.number row.items),
    )) c.loop-j.invariant.count
    (omega arith) (omega arith)
    (λ k kl j jl. ap (λ r. slice_index_or r j 0) (c.loop-j.invariant.done k kl) ∙ column-at g.F.Field.number c.self.inside.rows.items k j))
