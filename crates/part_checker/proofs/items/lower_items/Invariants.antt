use Rattle.part_checker.specs.Items.{AreItems}
use Rattle.part_checker.proofs.items.lower_items.Given as goal

abbrev pub invariant-loop-block : goal.invariant-loop-block
invariant-loop-block l = record { items : AreItems l.blocks l.block l.items.items }
