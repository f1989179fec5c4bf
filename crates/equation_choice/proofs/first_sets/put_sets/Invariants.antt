use Rattle.std.proofs.Common.{◌≡◌, length, map}
use Rattle.equation_choice.proofs.FirstSets.{TellsFrom}
use Rattle.equation_choice.proofs.first_sets.put_sets.Given as goal

abbrev pub invariant-loop-k : goal.invariant-loop-k
invariant-loop-k l = record {
  count : length l.first ≡ length l.fn.first;
  tells : TellsFrom (map (λ set. set.items) l.sets) l.k l.first;
}
