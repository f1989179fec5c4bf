use Rattle.std.proofs.Common.{◌≡◌, ℕ, ◌<◌, true, false}
use Rattle.bit_table.specs.Bits.{bit_in}
use Rattle.part_orders.proofs.ItemLaws.{left, right}
use Rattle.part_orders.proofs.covers.are_only_direct.Given as goal

abbrev pub invariant-loop-i : goal.invariant-loop-i
invariant-loop-i l = (j : ℕ) → j < l.i → (bit_in l.direct (left l.lower j) (right l.lower j) ≡ true)
    × (bit_in l.deep (left l.lower j) (right l.lower j) ≡ false)
