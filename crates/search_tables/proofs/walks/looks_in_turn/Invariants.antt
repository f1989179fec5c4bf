use Rattle.std.proofs.Common.{◌≡◌}
use Rattle.search_tables.proofs.walks.looks_in_turn.Given as goal

abbrev pub invariant-loop-starts : goal.invariant-loop-starts
invariant-loop-starts g l = l.search.places ≡ 10
