use Rattle.std.proofs.Common.{◌≡◌, ◌≤◌, ◌-◌}
use Rattle.sparse_q.specs.Tables.{sparse_rows, number_in}
use Rattle.sparse_q.proofs.MadeLaws.{IsFilledTo}
use Rattle.sparse_q.proofs.made.column_of.Given as goal

abbrev pub invariant-loop-i : goal.invariant-loop-i
invariant-loop-i g l = record {
  within : l.from ≤ sparse_rows l.m;
  width : l.column.width ≡ sparse_rows l.m;
  filled : IsFilledTo (λ i. number_in l.m i l.j) l.column.items l.from;
}

abbrev pub decreases-loop-i : goal.decreases-loop-i
decreases-loop-i g l = sparse_rows l.m - l.from
