use Rattle.std.proofs.Common.{arith}
use Rattle.minimiser_lattice.specs.Components.{component_number, component_places}
use Rattle.minimiser_lattice.specs.Ready.{least_of}
use Rattle.minimiser_lattice.proofs.ReadyLaws.{least-place}
use Rattle.minimiser_lattice.proofs.ready.Ready.seat.Goals as goal

pub returns-clause-least : goal.returns-clause-least
returns-clause-least c =
    let cs = c.args.components.now in
    let I = c.loop-place.invariant in
    λ k l. least-place (component_places cs) (component_number cs) (least_of c.loop-place.self) k (c.requires.numbering.member k l)
    (λ x xl. I.least x (omega (arith, c.loop-place-test.false)) xl)
    (λ x xl. I.has x (omega (arith, c.loop-place-test.false)) xl)
