use Rattle.std.proofs.Common.{◌≡◌, take}
use Rattle.part_search.proofs.reasons.copy_of.Given as goal

abbrev pub invariant-loop-mark : goal.invariant-loop-mark
invariant-loop-mark l = record { copied : l.copy.items ≡ take l.mark-index l.marks }
