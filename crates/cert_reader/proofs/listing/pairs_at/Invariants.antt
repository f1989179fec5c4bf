use Rattle.std.proofs.Common.{ℕ, ◌+◌, length}
use Rattle.cert_reader.specs.Items.{goes_on, pair_at, pairs_at}
use Rattle.cert_reader.proofs.Looping.{SoFar}
use Rattle.cert_reader.proofs.listing.pairs_at.Given as goal

abbrev pub invariant-loop-rest : goal.invariant-loop-rest
invariant-loop-rest l = SoFar goes_on (λ (p : ℕ × ℕ). p.0 + 1) (pair_at l.m l.n) l.line l.pairs.items l.low l.rest (pairs_at l.m l.n l.line l.bytes)

abbrev pub decreases-loop-rest : goal.decreases-loop-rest
decreases-loop-rest l = length l.rest
