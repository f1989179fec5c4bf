use Rattle.std.proofs.Common.{◌+◌, ◌%◌, ◌<◌, ℕ, ap, arith, length, map, slice_index, subst, sym, ◌∙◌}
use Rattle.std.proofs.lemmas.List.{get_or-map, map_push}
use Rattle.cert_text.specs.Contents.{numbered_rows}
use Rattle.block_solver.specs.Rows.{PutsSides, row_sum}
use Rattle.block_solver.proofs.Entries.{row_is}
use Rattle.block_solver.proofs.RowPlaces.{left-next}
use Rattle.block_solver.proofs.sides.put_sides.Goals as goal

pub loop-member-preserved : goal.loop-member-preserved
loop-member-preserved g c =
    let p = g.F.Field.modulus in
    let number = g.F.Field.number in
    let rows = c.args.rows.now in
    let right = c.args.right.now in
    let members = c.args.members.now in
    let x = map number c.args.x.now in
    let k = c.loop-member.member-index in
    let old = map number c.args.sides.now.items in
    let now = c.loop-member.sides.items in
    let side = c.sub.result in
    let sum = c.row_sum-sum.result in
    let member : ℕ = slice_index members k in
    let low : slice_index members k < length rows = c.requires.members k 0 c.loop-member-test.true in
    subst (λ l. PutsSides p old (map number l) (k + 1) (numbered_rows number rows) (map number right) members x) (sym c.in_ok-push.ensures.items)
    (subst (λ l. PutsSides p old l (k + 1) (numbered_rows number rows) (map number right) members x) (sym (map_push number now side))
    (left-next p old (map number now) k (numbered_rows number rows) (map number right) members x (number side) (number sum) c.loop-member.invariant
    (c.sub.ensures.difference ∙ ap (λ z. z % p) (ap number c.index-right-member.is
    ∙ sym (get_or-map number right member c.index-right-member.result 0 (omega (arith, low, c.requires.right)))))
    (c.row_sum-sum.ensures ∙ ap (λ row. row_sum row x % p)
    (sym (row_is number rows member c.as_slice.result.now c.index-rows-member.result low c.as_slice.ensures c.index-rows-member.is)))))
