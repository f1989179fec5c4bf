use Rattle.std.proofs.Common.{◌≡◌, ◌+◌, ◌*◌, ◌%◌, ap, refl, ◌∙◌, map, length, slice_index, arith}
use Rattle.std.proofs.Math.Nat.{zero-mod}
use Rattle.row_table.specs.Layouts.{layout_places}
use Rattle.row_table.specs.PutOffs.{Kept, actual}
use Rattle.row_table.proofs.PutOffLaws.{value-at}
use Rattle.row_table.proofs.JoinLaws.{reduced-here}
use Rattle.row_table.proofs.joins.reduce_by.Goals as goal

pub returns-then-not-is_zero-clause-here : goal.returns-then-not-is_zero-clause-here
returns-then-not-is_zero-clause-here g c = λ j jl.
    let p = g.F.Field.modulus in
    let old : Kept = c.args.table.now in
    reduced-here p (length c.args.items.now) (layout_places c.args.places.now).basic
    (λ k. slice_index (map g.F.Field.number c.args.items.now) k) c.args.i c.basic-c.result
    (g.F.Field.number c.index-items-c.result) (g.F.Field.number c.neg.result) (actual p old c.args.row j)
    (actual p old c.args.i j) (actual p c.add_row.new.self c.args.row j) c.basic-c.ensures.basic
    (omega (arith, c.if-c-items.true))
    (value-at g.F.Field.number c.args.items.now c.basic-c.result c.index-items-c.result (omega (arith, c.if-c-items.true))
    c.index-items-c.is)
    c.in_field.ensures c.neg.ensures.negative (c.add_row.ensures.added.changed j jl)

pub returns-else-not-is_zero-clause-here : goal.returns-else-not-is_zero-clause-here
returns-else-not-is_zero-clause-here g c = λ j jl.
    let p = g.F.Field.modulus in
    let old : Kept = c.args.table.now in
    let zero : g.F.Field.number c.index-items-c.result ≡ 0 = c.if-not-is_zero.ensures.0 refl in
    reduced-here p (length c.args.items.now) (layout_places c.args.places.now).basic
    (λ k. slice_index (map g.F.Field.number c.args.items.now) k) c.args.i c.basic-c.result
    (g.F.Field.number c.index-items-c.result) 0 (actual p old c.args.row j)
    (actual p old c.args.i j) (actual p old c.args.row j) c.basic-c.ensures.basic
    (omega (arith, c.if-c-items.true))
    (value-at g.F.Field.number c.args.items.now c.basic-c.result c.index-items-c.result (omega (arith, c.if-c-items.true))
    c.index-items-c.is)
    c.in_field.ensures (ap (λ k. (k + 0) % p) zero ∙ zero-mod p)
    (ap (λ k. k % p) (let q : actual p old c.args.row j ≡ actual p old c.args.row j + 0 * actual p old c.args.i j = omega arith in q))
