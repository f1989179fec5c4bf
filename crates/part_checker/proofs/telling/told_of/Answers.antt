use Rattle.std.proofs.Common.{◌<◌, ap, length, slice_index, subst, ◌∙◌}
use Rattle.bit_table.specs.Bits.{bit_in}
use Rattle.part_rules.specs.Listed.{arc_in}
use Rattle.part_rules.specs.Tests.{AreFirstPlaces, TellsChains}
use Rattle.part_checker.specs.Items.{AreItems}
use Rattle.part_checker.proofs.ItemLaws.{items-lower}
use Rattle.part_checker.proofs.PartNumbers.{block-place}
use Rattle.part_checker.proofs.telling.told_of.Goals as goal

pub first_places-requires : goal.first_places-requires
first_places-requires g c k low = block-place g.F.Field.modulus c.args.form.now c.blocks-2.ensures.ccf c.args.parts.now
    c.requires.parts k (subst (λ n. k < n) (ap length (c.as_slice-blocks.ensures ∙ c.blocks-2.ensures.blocks)) low)

pub returns : goal.returns
returns g c =
    let form = c.args.form.now in
    let same = c.as_slice-blocks.ensures ∙ c.blocks-2.ensures.blocks in
    let count = ap length same in
    let parts = c.args.parts.now in
    let items : AreItems form.blocks (length form.blocks) c.in_ok-lower.lower.items =
    subst (λ blocks. AreItems blocks (length blocks) c.in_ok-lower.lower.items) same c.in_ok-lower.ensures in
    record {
      arcs = c.in_ok-arcs.ensures;
      items = items.are;
      lower = items-lower form.blocks c.in_ok-lower.lower.items items;
      rows = c.in_ok-below.ensures.rows ∙ count;
      size = c.in_ok-below.ensures.size ∙ count;
      chains = subst (λ list. TellsChains (arc_in list) (length form.blocks)
          (bit_in c.in_ok-below.below)) c.deref.ensures.value
          (subst (λ n. TellsChains (arc_in c.deref.result.now) n
          (bit_in c.in_ok-below.below)) count c.in_ok-below.ensures.chains);
      head_count = c.in_ok-heads.ensures.count ∙ count;
      heads = subst (λ n. AreFirstPlaces (length parts) (slice_index parts) n (slice_index c.in_ok-heads.heads.items)) count c.in_ok-heads.ensures.places;
    }
