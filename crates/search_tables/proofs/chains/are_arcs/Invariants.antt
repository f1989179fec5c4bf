use Rattle.std.proofs.Common.{take}
use Rattle.part_rules.specs.Listed.{AreArcs}
use Rattle.search_tables.proofs.chains.are_arcs.Given as goal

abbrev pub invariant-loop-from : goal.invariant-loop-from
invariant-loop-from l = AreArcs l.places (take l.from-index l.arcs)
