use Rattle.std.proofs.Common.{ap, ◌∙◌, arith}
use Rattle.std.specs.BinaryHeap.{heap_items, heap_len}
use Rattle.bit_table.specs.Bits.{bit_in}
use Rattle.minimiser_lattice.specs.Components.{component_number, component_places}
use Rattle.minimiser_lattice.specs.Ready.{held_of}
use Rattle.minimiser_lattice.specs.declared.ready.Ready.{Ready}
use Rattle.minimiser_lattice.proofs.ReadyLaws.{apart-clear}
use Rattle.minimiser_lattice.proofs.ready.Ready.clear.Goals as goal

pub returns-clause-apart : goal.returns-clause-apart
returns-clause-apart c =
    let cs = c.args.components.now in
    let K = c.seat.ensures.kept in
    λ standing. apart-clear (component_number cs) (bit_in cs.strict) standing (component_places cs) cs.count c.seat.new.self
    c.seat.ensures.room
    (ap (λ (r : Ready). heap_len r.keys) K ∙ c.clear-2.ensures.len)
    (ap (λ (r : Ready). heap_items r.keys) K ∙ c.clear-2.ensures.items)
    c.seat.ensures.least
    (λ k l. ap (λ (r : Ready). held_of r k) K
    ∙ c.hold_all.ensures.held k (omega (arith, l, c.requires.numbering.fits, c.requires.room.held)))
    (λ x y. ap (λ (r : Ready). bit_in r.waits x y) K ∙ c.clear.ensures.empty x y)
