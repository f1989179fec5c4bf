use Rattle.std.proofs.Common.{ℕ, ◌+◌, length}
use Rattle.std.specs.Prelude.{codes}
use Rattle.cert_reader.specs.Items.{goes_on, marked_at, numbers_at}
use Rattle.cert_reader.proofs.Looping.{SoFar}
use Rattle.cert_reader.proofs.listing.numbers_at.Given as goal

abbrev pub invariant-loop-rest : goal.invariant-loop-rest
invariant-loop-rest l = SoFar goes_on (λ (i : ℕ). i + 1) (marked_at (codes " ") l.n) l.line l.numbers.items l.low l.rest (numbers_at l.n l.line l.bytes)

abbrev pub decreases-loop-rest : goal.decreases-loop-rest
decreases-loop-rest l = length l.rest
