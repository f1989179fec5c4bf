use Rattle.std.proofs.Common.{◌≡◌}
use Rattle.search_tables.proofs.pairs.constants.Given as goal

abbrev pub invariant-loop-row : goal.invariant-loop-row
invariant-loop-row l = l.q.width ≡ l.columns
