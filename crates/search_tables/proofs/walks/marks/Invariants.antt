use Rattle.std.proofs.Common.{◌≡◌, vec_len}
use Rattle.search_tables.proofs.walks.marks.Given as goal

abbrev pub invariant-loop-place : goal.invariant-loop-place
invariant-loop-place l = vec_len l.marks ≡ l.place-counter
