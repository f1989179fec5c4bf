use Rattle.std.proofs.Common.{ap, arith, map, sym, ◌∙◌}
use Rattle.std.proofs.lemmas.List.{get_or-map}
use Rattle.block_solver.proofs.PartTables.{numbers-next}
use Rattle.block_solver.proofs.sides.put_numbers.Goals as goal

pub loop-place-preserved : goal.loop-place-preserved
loop-place-preserved g c =
    let number = g.F.Field.number in
    let columns = c.args.columns.now in
    let n = c.loop-place.place in
    let v = c.index-numbers-place.result in
    numbers-next number columns (map number c.args.x.now) (map number c.args.numbers.now) c.loop-place.x n v c.requires.rising c.loop-place-test.true
    (omega (arith, c.loop-place.auto.x, c.requires.columns n 0 c.loop-place-test.true)) c.loop-place.invariant
    (ap number c.index-numbers-place.is ∙ sym (get_or-map number c.args.numbers.now n v 0 (omega (arith, c.loop-place-test.true, c.requires.numbers))))
