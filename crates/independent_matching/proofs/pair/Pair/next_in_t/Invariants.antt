use Rattle.std.proofs.Common.{◌≡◌, ◌<◌, ◌≤◌, ℕ, slice_index}
use Rattle.bipartite_matching.specs.Matchings.{HasPair}
use Rattle.independent_matching.proofs.pair.Pair.next_in_t.Given as goal

abbrev pub invariant-loop-at : goal.invariant-loop-at
invariant-loop-at g l = (k y : ℕ) → l.from ≤ k → k < l.at → HasPair l.self.mates (slice_index l.rows k) y → y ≡ l.x
