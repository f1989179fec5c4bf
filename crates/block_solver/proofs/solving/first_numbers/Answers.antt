use Rattle.std.proofs.Common.{◌+◌, ap, arith, map, subst, sym, ◌∙◌}
use Rattle.std.proofs.lemmas.List.{get_or-map, map_push}
use Rattle.block_solver.specs.Outcomes.{AreUnknownsOf}
use Rattle.block_solver.proofs.SymbolNumbers.{unknowns-next}
use Rattle.block_solver.proofs.solving.first_numbers.Goals as goal

pub loop-column-preserved : goal.loop-column-preserved
loop-column-preserved g c =
    let number = g.F.Field.number in
    let x = c.args.x.now in
    let n = c.loop-column.column in
    let numbers = c.loop-column.numbers.items in
    let v = c.index-x-column.result in
    subst (λ l. AreUnknownsOf (n + 1) (map number x) (map number l)) (sym c.in_ok-push.ensures.items)
    (subst (AreUnknownsOf (n + 1) (map number x)) (sym (map_push number numbers v))
    (unknowns-next n (map number x) (map number numbers) (number v) c.loop-column.invariant
    (ap number c.index-x-column.is ∙ sym (get_or-map number x n v 0 (omega (arith, c.loop-column-test.true, c.requires))))))
