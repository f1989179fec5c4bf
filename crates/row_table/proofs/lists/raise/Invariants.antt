use Rattle.std.proofs.Common.{◌≡◌, ◌++◌, map, take, drop}
use Rattle.linear_algebra.specs.Parts.{skip}
use Rattle.row_table.proofs.lists.raise.Given as goal

abbrev pub invariant-loop-number : goal.invariant-loop-number
invariant-loop-number l = l.numbers ≡ map (skip l.at) (take l.number-index l.fn.numbers) ++ drop l.number-index l.fn.numbers
