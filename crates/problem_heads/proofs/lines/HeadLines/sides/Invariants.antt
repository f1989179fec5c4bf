use Rattle.std.proofs.Common.{◌≡◌, take}
use Rattle.problem_heads.specs.Problems.{sides_of}
use Rattle.problem_heads.proofs.lines.HeadLines.sides.Given as goal

abbrev pub invariant-loop-i : goal.invariant-loop-i
invariant-loop-i g l = l.sides.items ≡ sides_of l.self.numbers l.default (take l.i l.model.equations)
