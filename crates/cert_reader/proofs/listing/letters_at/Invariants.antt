use Rattle.std.proofs.Common.{ℕ, ◌+◌, length}
use Rattle.cert_reader.specs.Fronts.{begins_with}
use Rattle.cert_reader.specs.Items.{marked_at, letters_at}
use Rattle.cert_reader.proofs.Looping.{SoFar}
use Rattle.cert_reader.proofs.listing.letters_at.Given as goal

abbrev pub invariant-loop-rest : goal.invariant-loop-rest
invariant-loop-rest l = SoFar (λ bytes. begins_with l.mark bytes) (λ (i : ℕ). i + 1)
    (marked_at l.mark l.n) l.line l.rows.items l.low l.rest (letters_at l.mark l.n l.line l.bytes)

abbrev pub decreases-loop-rest : goal.decreases-loop-rest
decreases-loop-rest l = length l.rest
