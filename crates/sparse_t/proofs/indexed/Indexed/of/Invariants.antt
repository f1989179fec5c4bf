use Rattle.std.proofs.Common.{◌≡◌, take}
use Rattle.sparse_t.proofs.indexed.Indexed.of.Given as goal

abbrev pub invariant-loop-i : goal.invariant-loop-i
invariant-loop-i l = l.indexed ≡ record l.pattern { rows = take l.i l.pattern.rows }
