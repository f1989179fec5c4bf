use Rattle.std.proofs.Common.{refl, arith}
use Rattle.part_search.proofs.LeadLaws.{one-more}
use Rattle.part_search.proofs.leading.may_all_lead.Goals as goal

pub loop-arc-preserved : goal.loop-arc-preserved
loop-arc-preserved c = record {
  lead = λ lower chains. one-more c.args.arcs.now c.args.parts.now c.args.below.now.rows c.loop-arc.arc-index lower
      (c.loop-arc.invariant.lead lower chains) ((c.may_lead.ensures lower chains).0 c.if-not-may_lead.false);
}

pub returns : goal.returns
returns c lower chains = ((λ t k kl. c.loop-arc.invariant.lead lower chains k (omega (arith, kl, c.loop-arc-test.false))), (λ all. refl))
