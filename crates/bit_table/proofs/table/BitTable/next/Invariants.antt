use Rattle.std.proofs.Common.{◌-◌, ◌≤◌}
use Rattle.residue_theory.specs.Ranges.{HasNone}
use Rattle.bit_table.specs.Bits.{bit_of}
use Rattle.bit_table.proofs.table.BitTable.next.Given as goal

abbrev pub invariant-loop-at : goal.invariant-loop-at
invariant-loop-at l = record {
  within : l.from ≤ l.at;
  none : HasNone (bit_of l.self-inside.words.items l.self-inside.width l.x) l.from l.at;
}

abbrev pub decreases-loop-at : goal.decreases-loop-at
decreases-loop-at l = l.end - l.at
