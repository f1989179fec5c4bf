use Rattle.std.proofs.Common.{◌≡◌, ◌<◌, ◌≤◌, ◌-◌, ℕ, false, length, slice_index}
use Rattle.line_lexer.proofs.scan.first_by.Given as goal

abbrev pub invariant-loop-place : goal.invariant-loop-place
invariant-loop-place g l =
    (l.place ≤ length l.bytes) × ((k : ℕ) → k < l.place → g.T.ByteTest.holds (slice_index l.bytes k) ≡ false)

abbrev pub decreases-loop-place : goal.decreases-loop-place
decreases-loop-place g l = length l.bytes - l.place
