use Rattle.std.proofs.Common.{ℕ, Bool}
use Rattle.bit_table.specs.Bits.{bit_in}
use Rattle.part_rules.specs.Tests.{TellsChains}
use Rattle.part_search.specs.Steps.{MayAllLead}
use Rattle.part_search.proofs.leading.may_all_lead.Given as goal

abbrev pub invariant-loop-arc : goal.invariant-loop-arc
invariant-loop-arc l = record {
  lead : (lower : ℕ → ℕ → Bool) → TellsChains lower l.below.rows (bit_in l.below) →
      MayAllLead l.arcs l.parts l.below.rows lower l.arc-index;
}
