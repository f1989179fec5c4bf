use Rattle.ccf_builder.specs.Placings.{ListsParts}
use Rattle.ccf_builder.proofs.part_lists.PartLists.of.Given as goal

abbrev pub invariant-loop-number : goal.invariant-loop-number
invariant-loop-number l = ListsParts l.parts l.number l.blocks l.lists
