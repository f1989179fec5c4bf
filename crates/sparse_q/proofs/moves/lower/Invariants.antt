use Rattle.std.proofs.Common.{◌≡◌, ◌++◌, map, take, drop}
use Rattle.linear_algebra.specs.Parts.{unskip}
use Rattle.sparse_q.specs.Rows.{entry_moved}
use Rattle.sparse_q.proofs.moves.lower.Given as goal

abbrev pub invariant-loop-entry : goal.invariant-loop-entry
invariant-loop-entry g l = l.entries ≡ map (entry_moved (unskip l.at)) (take l.entry-index l.fn.entries) ++ drop l.entry-index l.fn.entries
