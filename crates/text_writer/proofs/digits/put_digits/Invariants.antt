use Rattle.std.proofs.Common.{◌+◌, ◌≡◌, ◌≤◌, ◌<◌, ◌^◌, ◌++◌, drop}
use Rattle.std.specs.Fmt.{decimal}
use Rattle.text_writer.proofs.digits.put_digits.Given as goal

-- the digits behind `start` are put, and what is left has room before them
abbrev pub invariant-loop-left : goal.invariant-loop-left
invariant-loop-left l = record {
  some : 1 ≤ l.start;
  room : l.start ≤ 20;
  small : l.left < 10 ^ l.start;
  told : decimal l.number ≡ decimal l.left ++ drop (l.start + 1) l.place;
}

abbrev pub decreases-loop-left : goal.decreases-loop-left
decreases-loop-left l = l.left
