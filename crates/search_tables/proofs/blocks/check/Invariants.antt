use Rattle.std.proofs.Common.{◌≡◌}
use Rattle.search_tables.proofs.blocks.check.Given as goal

abbrev pub invariant-loop-case : goal.invariant-loop-case
invariant-loop-case g l = l.lattice.places ≡ l.places
