use Rattle.std.proofs.Common.{ℕ, ◌+◌, length}
use Rattle.cert_text.specs.Contents.{numbered}
use Rattle.cert_reader.specs.Items.{goes_on, entry_at, entries_at}
use Rattle.cert_reader.proofs.Looping.{SoFar}
use Rattle.cert_reader.proofs.listing.entries_at.Given as goal

abbrev pub invariant-loop-rest : goal.invariant-loop-rest
invariant-loop-rest g l =
    SoFar goes_on (λ (p : ℕ × ℕ). p.0 + 1) (entry_at g.F.Field.modulus l.n) l.line (numbered g.F.Field.number l.entries.items) l.low l.rest
    (entries_at g.F.Field.modulus l.n l.line l.bytes)

abbrev pub decreases-loop-rest : goal.decreases-loop-rest
decreases-loop-rest g l = length l.rest
