use Rattle.std.proofs.Common.{◌≡◌, ◌-◌, length}
use Rattle.independent_matching.specs.Marks.{AreKeptMarks}
use Rattle.independent_matching.proofs.marks.Marks.free_end.Given as goal

abbrev pub invariant-loop-self : goal.invariant-loop-self
invariant-loop-self l = record {
  rest : l.self ≡ record l.fn.self { first = l.self.first };
  sized : AreKeptMarks (length l.resting.free.items) l.resting l.self;
}

abbrev pub decreases-loop-self : goal.decreases-loop-self
decreases-loop-self l = length l.resting.free.items - l.self.first
