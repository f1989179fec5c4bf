use Rattle.std.proofs.Common.{◌≡◌, ◌++◌, map, take, drop, cond, eqb}
use Rattle.row_table.proofs.lists.replace.Given as goal

abbrev pub invariant-loop-number : goal.invariant-loop-number
invariant-loop-number l = l.numbers ≡ map (λ n. cond (eqb n l.old) l.new n) (take l.number-index l.fn.numbers) ++ drop l.number-index l.fn.numbers
