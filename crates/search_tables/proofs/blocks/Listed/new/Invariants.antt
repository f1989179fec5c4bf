use Rattle.std.proofs.Common.{◌≡◌, vec_len}
use Rattle.search_tables.proofs.blocks.Listed.new.Given as goal

abbrev pub invariant-loop-x : goal.invariant-loop-x
invariant-loop-x l = vec_len l.rows ≡ l.places
