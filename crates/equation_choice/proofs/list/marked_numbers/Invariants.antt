use Rattle.exchange_graph.specs.Marks.{members_of}
use Rattle.equation_choice.specs.Lists.{AreMarkedBelow}
use Rattle.equation_choice.proofs.list.marked_numbers.Given as goal

abbrev pub invariant-loop-number : goal.invariant-loop-number
invariant-loop-number l = AreMarkedBelow (members_of l.marks) l.number l.list.items
