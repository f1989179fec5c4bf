use Rattle.exchange_graph.specs.Marks.{members_of}
use Rattle.bit_table.specs.Bits.{bit_in}
use Rattle.minimiser_lattice.specs.Components.{component_number}
use Rattle.minimiser_lattice.specs.Listings.{IsFirstTail}
use Rattle.minimiser_lattice.proofs.tails.mark_starts.Given as goal

abbrev pub invariant-loop-place : goal.invariant-loop-place
invariant-loop-place l = IsFirstTail l.place (component_number l.components) l.components.count (bit_in l.components.strict)
    (members_of l.starts) (members_of l.marks)
