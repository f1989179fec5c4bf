use Rattle.std.proofs.Common.{◌≡◌, ◌++◌, map, take, drop}
use Rattle.linear_algebra.specs.Parts.{unskip}
use Rattle.row_table.proofs.lists.lower.Given as goal

abbrev pub invariant-loop-number : goal.invariant-loop-number
invariant-loop-number l = l.numbers ≡ map (unskip l.at) (take l.number-index l.fn.numbers) ++ drop l.number-index l.fn.numbers
