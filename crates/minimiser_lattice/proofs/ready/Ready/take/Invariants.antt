use Rattle.std.specs.BinaryHeap.{heap_len}
use Rattle.minimiser_lattice.specs.Standings.{standing_in}
use Rattle.minimiser_lattice.specs.Ready.{AreApartIn}
use Rattle.minimiser_lattice.proofs.ready.Ready.take.Given as goal

abbrev pub invariant-loop-key : goal.invariant-loop-key
invariant-loop-key l = AreApartIn l.components (standing_in l.standing) (λ _. ⊥) l.self

abbrev pub decreases-loop-key : goal.decreases-loop-key
decreases-loop-key l = heap_len l.self.keys
