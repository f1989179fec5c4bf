use Rattle.std.proofs.Common.{◌≡◌, ℕ, ◌+◌, ◌<◌, length, slice_index}
use Rattle.search_tables.proofs.orders.have_places.Given as goal

abbrev pub invariant-loop-k : goal.invariant-loop-k
invariant-loop-k l = (k : ℕ) → k < l.k → (x : ℕ) × (x < length l.parts) × (slice_index l.parts x ≡ k + 2)
