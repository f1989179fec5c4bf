use Rattle.std.proofs.Common.{refl, arith}
use Rattle.residue_theory.proofs.SetLaws.{differ}
use Rattle.repair_checker.proofs.Levels.{falls-more, falls-not}
use Rattle.repair_checker.proofs.costs.are_falling.Goals as goal

pub returns-then-one-next : goal.returns-then-one-next
returns-then-one-next g c = (
  (λ never. absurd (differ refl never)),
  (λ falls. absurd (falls-not c.args.levels.now c.loop-k.k (omega (arith, c.loop-k.invariant.1)) c.loop-k-test.true
      c.index-levels-k.result c.index-levels-k-in-loop-k.result c.if-one-next.true falls)),
)

pub loop-k-preserved : goal.loop-k-preserved
loop-k-preserved g c = (
  falls-more c.args.levels.now c.loop-k.k c.loop-k.invariant.0 (omega (arith, c.loop-k.invariant.1)) c.loop-k-test.true
      c.index-levels-k.result c.index-levels-k-in-loop-k.result c.if-one-next.false,
  omega (arith, c.loop-k.invariant.1),
)
