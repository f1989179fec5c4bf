use Rattle.std.proofs.Common.{◌≡◌, ℕ, ◌<◌, ◌≤◌, false, length, vec_len}
use Rattle.part_rules.specs.Listed.{marked}
use Rattle.part_search.specs.Markings.{IsQueue}
use Rattle.part_search.proofs.marking.Marking.start.Given as goal

abbrev pub invariant-loop-place : goal.invariant-loop-place
invariant-loop-place l = record {
  queued : IsQueue l.marking.marks.items l.marking.queue.items;
  count : vec_len l.marking.marks ≡ length l.starts;
  done : (y : ℕ) → y < l.place → marked l.marking.marks.items y ≡ marked l.starts y;
  rest : (y : ℕ) → l.place ≤ y → marked l.marking.marks.items y ≡ false;
}
