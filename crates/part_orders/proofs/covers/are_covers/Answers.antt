use Rattle.std.proofs.Common.{length, slice_index}
use Rattle.bit_table.specs.Bits.{bit_in}
use Rattle.part_rules.specs.Listed.{arc_in}
use Rattle.part_orders.proofs.CoverLaws.{only_direct_are_covers}
use Rattle.part_orders.proofs.covers.are_covers.Goals as goal

pub returns : goal.returns
returns c =
    let told = only_direct_are_covers (arc_in c.args.arcs.now) (length c.args.parts.now) (slice_index c.args.parts.now)
    c.args.blocks c.args.lower.now (bit_in c.args.below.now) (bit_in c.in_ok-direct.direct)
    (bit_in c.in_ok-deep.deep)
    c.requires.lower c.requires.chains c.in_ok-direct.ensures.direct c.in_ok-deep.ensures.deep in
    ((λ h. told.0 (c.are_only_direct.ensures.0 h)), (λ h. c.are_only_direct.ensures.1 (told.1 h)))
