use Rattle.std.proofs.Common.{◌≡◌, ◌++◌, take}
use Rattle.part_checker.specs.Items.{items_of}
use Rattle.part_checker.proofs.items.put_list.Given as goal

abbrev pub invariant-loop-lower : goal.invariant-loop-lower
invariant-loop-lower l = record { put : l.items.items ≡ l.fn.items.items ++ items_of l.block (take l.lower-index l.list) }
