use Rattle.std.proofs.Common.{◌≡◌, ◌<◌, ℕ, eqb, length}
use Rattle.exchange_graph.specs.Marks.{members_of}
use Rattle.equation_choice.proofs.list.mark_only.Given as goal

abbrev pub invariant-loop-x : goal.invariant-loop-x
invariant-loop-x l = record {
  count : length l.marks ≡ length l.fn.marks;
  seen : (y : ℕ) → y < l.x → members_of l.marks y ≡ eqb y l.number;
}
