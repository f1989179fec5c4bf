use Rattle.std.proofs.Common.{◌≡◌, ◌+◌, ◌-◌, ◌∙◌, length, ap, arith}
use Rattle.dense_q.specs.Tables.{entry, height, table_with_entry}
use Rattle.mixed_model.specs.Models.{constant_at, mixed_matrix_of}
use Rattle.mixed_layering.specs.Places.{constant_place}
use Rattle.mixed_layering.proofs.EntryLaws.{row_long, fills-next, fills-same}
use Rattle.mixed_layering.proofs.PlaceLaws.{constant_place-some, constant_place-none, past_constant}
use Rattle.mixed_layering.proofs.constants.fill_row.Goals as goal

pub put-requires-clause-zero : goal.put-requires-clause-zero
put-requires-clause-zero g c j le jl =
    let model = c.args.model.now in
    let fills = c.in_ok-put_constants.ensures.fills in
    let past : j ≡ length model.unknowns + (j - length model.unknowns) =
    omega (arith, le, c.cols.ensures.cols, c.requires.width) in
    ap (λ h. entry c.put_constants.new.q (h - 1) j) fills.size.height_same
    ∙ fills.filled j (omega (arith, fills.size.width_same, jl))
    ∙ ap (constant_at model c.args.equation) past
    ∙ past_constant g.F.Field.modulus model c.in_ok-put_constants.ensures.model c.args.equation c.requires.equation
    c.args.split.now (j - length model.unknowns)

pub returns-in_ok-put : goal.returns-in_ok-put
returns-in_ok-put g c =
    let model = c.args.model.now in
    let split = c.args.split.now in
    let place = c.in-Some.place in
    let long = row_long c.args.q.now (height c.args.q.now - 1) (omega (arith, c.requires.some)) c.cols.ensures.matrix in
    let column : c.cols.result - length split + place ≡ length model.unknowns + place = omega (arith, c.cols.ensures.cols, c.requires.width) in
    fills-next c.args.q.now c.put_constants.new.q c.put.new.self (height c.args.q.now - 1) (length model.unknowns + place) 1
    (constant_at model c.args.equation) (constant_place (mixed_matrix_of model) split c.args.equation) (omega (arith, c.requires.some))
    (omega (arith, long, c.requires.width, c.in-Some.ensures.within)) c.in_ok-put_constants.ensures.fills
    (c.in_ok-put.ensures.ok
    ∙ ap (λ h. table_with_entry c.put_constants.new.q (h - 1) (c.cols.result - length split + place) (g.F.Field.number c.one.result))
    c.in_ok-put_constants.ensures.fills.size.height_same
    ∙ ap (λ j. table_with_entry c.put_constants.new.q (height c.args.q.now - 1) j (g.F.Field.number c.one.result)) column
    ∙ ap (λ x. table_with_entry c.put_constants.new.q (height c.args.q.now - 1) (length model.unknowns + place) x) c.one.ensures)
    (λ b low. constant_place-some g.F.Field.modulus model c.in_ok-put_constants.ensures.model c.args.equation
    c.requires.equation split place c.requires.split.rising c.in-Some.ensures b
    (omega (arith, low, c.requires.width)))

pub returns-in_default : goal.returns-in_default
returns-in_default g c =
    let model = c.args.model.now in
    let split = c.args.split.now in
    fills-same c.args.q.now c.put_constants.new.q (height c.args.q.now - 1)
    (constant_at model c.args.equation) (constant_place (mixed_matrix_of model) split c.args.equation) c.in_ok-put_constants.ensures.fills
    (λ b low. constant_place-none g.F.Field.modulus model c.in_ok-put_constants.ensures.model c.args.equation
    c.requires.equation split c.in_default.ensures b (omega (arith, low, c.requires.width)))
