use Rattle.std.proofs.Common.{◌≡◌, drop}
use Rattle.matrix_picture.specs.Orders.{with_blocks}
use Rattle.matrix_picture.proofs.layout.Layout.push_blocks.Given as goal

abbrev pub invariant-loop-block : goal.invariant-loop-block
invariant-loop-block l = with_blocks l.self (drop l.block-index l.blocks) ≡ with_blocks l.initial.self l.blocks
