use Rattle.std.proofs.Common.{◌≡◌, ◌+◌, ◌%◌, ap, arith, length, map, subst, sym, ◌∙◌}
use Rattle.std.proofs.lemmas.List.{length-map, map_push}
use Rattle.cert_text.specs.Contents.{numbered, numbered_rows}
use Rattle.block_solver.specs.Rows.{row_sum}
use Rattle.block_solver.proofs.Entries.{row_is}
use Rattle.block_solver.proofs.RowPlaces.{AreSumsBegun, sums-next}
use Rattle.block_solver.proofs.rows.row_sums.Goals as goal

pub loop-row-preserved : goal.loop-row-preserved
loop-row-preserved g c =
    let p = g.F.Field.modulus in
    let number = g.F.Field.number in
    let rows = numbered_rows number c.args.rows.now in
    let x = map number c.args.x.now in
    let k = c.loop-row.row-index in
    let sums = c.loop-row.sums.items in
    let sum = c.row_sum.result in
    subst (λ l. AreSumsBegun p rows x (map number l) (k + 1)) (sym c.in_ok-push.ensures.items)
    (subst (λ l. AreSumsBegun p rows x l (k + 1)) (sym (map_push number sums sum))
    (sums-next p rows x (map number sums) k (number sum) c.loop-row.invariant
    (c.row_sum.ensures ∙ ap (λ row. row_sum row x % p)
    (sym (row_is number c.args.rows.now k c.as_slice.result.now c.row-item.result c.loop-row-test.true c.as_slice.ensures c.row-item.is)))))

pub returns : goal.returns
returns g c =
    let number = g.F.Field.number in
    let rows = c.args.rows.now in
    let many : length (numbered_rows number rows) ≡ length rows = length-map rows (numbered number) in
    record {
      count = omega (arith, c.loop-row.invariant.count, many, c.loop-row-test.false, c.loop-row.auto.row-index-end);
      sum = λ i il. c.loop-row.invariant.sum i (omega (arith, il, many, c.loop-row-test.false));
    }
