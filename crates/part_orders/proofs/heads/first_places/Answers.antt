use Rattle.std.proofs.Common.{length, slice_index, arith}
use Rattle.part_orders.proofs.HeadLaws.{first_places_are}
use Rattle.part_orders.proofs.heads.first_places.Goals as goal

pub returns-clause-places : goal.returns-clause-places
returns-clause-places c =
    first_places_are (length c.args.parts.now) (slice_index c.args.parts.now) c.args.blocks
    (slice_index c.loop-place.heads.items) c.loop-place.place (omega (arith, c.loop-place-test.false)) c.requires
    c.loop-place.invariant.first
