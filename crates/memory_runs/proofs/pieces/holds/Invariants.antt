use Rattle.std.proofs.Common.{ℕ, ◌<◌, ◌≡◌, false, drop, nat_eq}
use Rattle.std.specs.List.{starts_with}
use Rattle.memory_runs.proofs.pieces.holds.Given as goal

abbrev pub invariant-loop-start : goal.invariant-loop-start
invariant-loop-start l = (k : ℕ) → k < l.start → starts_with nat_eq (drop k l.text) l.piece ≡ false
