use Rattle.std.proofs.Common.{ℕ, ◌<◌, ◌≤◌, slice_index}
use Rattle.part_orders.proofs.heads.is_least_first.Given as goal

abbrev pub invariant-loop-block : goal.invariant-loop-block
invariant-loop-block l = (m k : ℕ) → m < l.block → slice_index l.ready.items m ≤ k → k < m → slice_index l.heads k < slice_index l.heads m
