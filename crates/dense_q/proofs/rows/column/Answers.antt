use Rattle.std.proofs.Common.{◌<◌, arith, map, ap, sym, ◌∙◌, length, vec_len, slice_index}
use Rattle.std.proofs.lemmas.List.{get_or-map}
use Rattle.dense_q.proofs.MadeLaws.{taken_more}
use Rattle.dense_q.proofs.rows.column.Goals as goal

pub loop-row-preserved : goal.loop-row-preserved
loop-row-preserved g c =
    let less : c.args.j < length c.row-item.result.items =
    omega (
      arith,
      c.row-item.result.ok.0,
      ap vec_len c.row-item.is,
      c.requires c.loop-row.row-index c.row-item.result (omega arith),
    ) in
    taken_more g.F.Field.number (λ row. slice_index (map g.F.Field.number row.items) c.args.j) c.args.rows.now
    c.loop-row.column.items c.push.new.self.items c.row-item.result c.index.result.now c.loop-row.row-index
    c.in_ok-push.ensures.items c.loop-row.invariant (omega arith) c.row-item.is
    (ap g.F.Field.number c.index.ensures ∙ sym (get_or-map g.F.Field.number c.row-item.result.items c.args.j c.index.result.now 0 less))
