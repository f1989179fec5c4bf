use Rattle.std.proofs.Common.{◌≡◌, ◌<◌, arith, map, ap, ◌∙◌, length, vec_len, slice_index_or}
use Rattle.dense_q.proofs.MadeLaws.{taken_more, pushed-widths}
use Rattle.dense_q.proofs.matrix.Mat.copy.Goals as goal

pub loop-row-preserved : goal.loop-row-preserved
loop-row-preserved g c =
    let less : c.loop-row.row-index < length c.self.inside.rows.items = omega (arith, ap (λ rs. length rs) c.deref-row-items.ensures.value) in
    let is : c.row-item.result ≡ slice_index_or c.self.inside.rows.items c.loop-row.row-index c.row-item.result =
    c.row-item.is ∙ ap (λ rs. slice_index_or rs c.loop-row.row-index c.row-item.result)
    c.deref-row-items.ensures.value in
    record {
      rows = taken_more (λ row. map g.F.Field.number row.items) (λ row. map g.F.Field.number row.items)
          c.self.inside.rows.items c.loop-row.all.items c.push.new.self.items c.row-item.result
          c.in_ok-from_slice.field-0 c.loop-row.row-index
          c.in_ok-push.ensures.items c.loop-row.invariant.rows less is
          (ap (λ xs. map g.F.Field.number xs) (c.in_ok-from_slice.ensures.items ∙ c.deref.ensures.value));
      widths = pushed-widths c.self.inside.width c.loop-row.all.items c.push.new.self.items c.in_ok-from_slice.field-0
          c.in_ok-push.ensures.items c.loop-row.invariant.widths
          (omega (
            arith,
            c.in_ok-from_slice.ensures.len,
            c.deref.ensures.len,
            ap vec_len is,
            c.self.invariant.full c.loop-row.row-index c.row-item.result less,
          ));
    }
