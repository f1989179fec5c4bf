use Rattle.std.proofs.Common.{◌≡◌, map, take}
use Rattle.equation_choice.proofs.repair.numbers.Given as goal

abbrev pub invariant-loop-priced : goal.invariant-loop-priced
invariant-loop-priced l = l.numbers.items ≡ map (λ priced. priced.equation) (take l.priced-index l.list)
