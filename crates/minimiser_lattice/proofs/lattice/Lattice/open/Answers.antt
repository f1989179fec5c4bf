use Rattle.std.proofs.Common.{◌≡◌, true, cond, get_or, ap, arith}
use Rattle.exchange_graph.specs.Marks.{members_of}
use Rattle.minimiser_lattice.specs.Components.{component_number}
use Rattle.minimiser_lattice.specs.declared.lattice.Part.TheVariants.{First, Last, Block}
use Rattle.minimiser_lattice.proofs.lattice.Lattice.open.Goals as goal

pub returns-clause-first : goal.returns-clause-first
returns-clause-first c = λ x l.
    let k = component_number c.in_ok-open.field-0 x in
    let listing = c.in_ok-open-2.field-0 in
    let marked : members_of listing.first.items k ≡ true =
    c.in_ok-open-2.ensures.first k (omega (arith, l, c.in_ok-open.ensures.numbers x)) in
    ap (λ first. cond first First (cond (members_of listing.last.items k) Last (Block (get_or listing.rank.items k 0)))) marked
