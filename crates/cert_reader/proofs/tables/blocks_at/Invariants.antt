use Rattle.std.proofs.Common.{length}
use Rattle.cert_reader.proofs.Blocks.{BlocksSoFar}
use Rattle.cert_reader.proofs.tables.blocks_at.Given as goal

abbrev pub invariant-loop-blocks : goal.invariant-loop-blocks
invariant-loop-blocks l = BlocksSoFar l.shape l.line l.bytes l.blocks.items l.at l.rest

abbrev pub decreases-loop-blocks : goal.decreases-loop-blocks
decreases-loop-blocks l = length l.rest
