use Rattle.std.proofs.Common.{ℕ, ◌<◌, slice_index}
use Rattle.bipartite_matching.specs.Matchings.{IsRowFree}
use Rattle.independent_matching.proofs.pair.Pair.free_t_row.Given as goal

abbrev pub invariant-loop-row : goal.invariant-loop-row
invariant-loop-row g l = (k : ℕ) → k < l.row-index → IsRowFree l.self.mates (slice_index l.row-items k) → ⊥
