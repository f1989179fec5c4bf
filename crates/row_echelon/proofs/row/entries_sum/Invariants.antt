use Rattle.std.proofs.Common.{◌≡◌, ◌*◌, ◌%◌, length, map, slice_index, take}
use Rattle.residue_theory.specs.Sums.{sum_below}
use Rattle.row_entries.specs.Rows.{items, number_at}
use Rattle.row_echelon.proofs.row.entries_sum.Given as goal

abbrev pub invariant-loop-entry : goal.invariant-loop-entry
invariant-loop-entry g l = g.F.Field.number l.sum % g.F.Field.modulus ≡ sum_below (length l.x)
    (λ j. slice_index (map g.F.Field.number l.x) j * number_at (take l.entry-index (items g.F.Field.number l.entries)) j) % g.F.Field.modulus
