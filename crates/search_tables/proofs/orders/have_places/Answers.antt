use Rattle.std.proofs.Common.{◌≡◌, ℕ, ◌+◌, ◌<◌, length, slice_index, below_more}
use Rattle.search_tables.proofs.orders.have_places.Goals as goal

pub loop-k-preserved : goal.loop-k-preserved
loop-k-preserved c = below_more
    (λ k. (x : ℕ) × (x < length c.args.parts.now) × (slice_index c.args.parts.now x ≡ k + 2)) c.loop-k.k
    c.loop-k.invariant (c.has_place.ensures c.if-not-has_place.false)
