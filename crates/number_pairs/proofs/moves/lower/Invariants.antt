use Rattle.std.proofs.Common.{◌≡◌, ◌++◌, map, take, drop}
use Rattle.std.specs.Option.{option_map}
use Rattle.linear_algebra.specs.Parts.{unskip}
use Rattle.number_pairs.proofs.moves.lower.Given as goal

abbrev pub invariant-loop-number : goal.invariant-loop-number
invariant-loop-number l = l.numbers ≡ map (option_map (unskip l.at)) (take l.number-index l.fn.numbers) ++ drop l.number-index l.fn.numbers
