use Rattle.std.proofs.Common.{arith}
use Rattle.equation_choice.proofs.EquationPlaces.{Gives, below-none, below-put, gives-one, places-told}
use Rattle.equation_choice.proofs.places.q_places.Goals as goal

pub loop-row-init : goal.loop-row-init
loop-row-init g c = below-none (Gives c.args.layered.now.q_origins) c.args.n c.in_ok-places.places.items
    c.in_ok-places.ensures.count c.in_ok-places.ensures.none

pub loop-row-preserved : goal.loop-row-preserved
loop-row-preserved g c =
    let list = c.args.layered.now.q_origins in
    below-put (Gives list) c.args.n c.loop-row.row c.q_origin.result c.loop-row.places.items c.put.new.places.items
    (λ y told. gives-one list c.loop-row.row c.q_origin.result y c.q_origin.ensures told) c.q_origin.ensures c.put.ensures c.loop-row.invariant

pub returns : goal.returns
returns g c = places-told c.args.n c.args.layered.now.q_origins c.loop-row.row c.loop-row.places.items
    (omega (arith, c.loop-row-test.false, c.q_rows-row-end.ensures, c.are_layers.ensures.q_origins)) c.loop-row.invariant
