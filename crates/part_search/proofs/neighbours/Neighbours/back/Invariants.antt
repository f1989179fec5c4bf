use Rattle.std.proofs.Common.{◌≡◌, ℕ, ◌||◌, drop, length, vec_len, slice_index}
use Rattle.part_rules.specs.Listed.{arc_in, inner}
use Rattle.part_search.specs.Neighbours.{listed}
use Rattle.part_search.proofs.neighbours.Neighbours.back.Given as goal

abbrev pub invariant-loop-from : goal.invariant-loop-from
invariant-loop-from l = record {
  count : vec_len l.neighbours.lists ≡ length l.parts;
  sum : (x y : ℕ) → listed l.neighbours.lists.items x y
      || inner (arc_in (drop l.from-index l.arcs)) (slice_index l.parts) y x ≡ inner (arc_in l.arcs) (slice_index l.parts) y x;
}
