use Rattle.std.proofs.Common.{◌+◌, ◌∙◌, ap, subst, sym}
use Rattle.std.proofs.lemmas.List.{get_or_default}
use Rattle.cert_text.specs.Ranges.{AreRising}
use Rattle.cert_text.specs.declared.part.CcfBlock.{CcfBlock}
use Rattle.part_checker.specs.Items.{AreItems}
use Rattle.part_checker.proofs.ItemLaws.{items-more}
use Rattle.part_checker.proofs.items.lower_items.Goals as goal

pub loop-block-preserved : goal.loop-block-preserved
loop-block-preserved c =
    let blocks = c.args.blocks.now in
    let n = c.loop-block.block in
    let block = c.index-blocks-block.result in
    record {
      items = subst (AreItems blocks (n + 1)) (sym c.in_ok-put_list.ensures)
          (items-more blocks n c.loop-block.items.items c.as_slice.result.now c.loop-block.invariant.items
          (subst (AreRising n) (sym c.as_slice.ensures) (c.requires n block c.loop-block-test.true)) c.loop-block-test.true
          (λ d. c.as_slice.ensures ∙ ap (λ (b : CcfBlock). b.lower) (get_or_default blocks n block d c.loop-block-test.true)));
    }
