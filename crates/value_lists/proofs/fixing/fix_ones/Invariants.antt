use Rattle.value_lists.proofs.Rows.{FixesSome}
use Rattle.value_lists.proofs.fixing.fix_ones.Given as goal

abbrev pub invariant-loop-column : goal.invariant-loop-column
invariant-loop-column g l = FixesSome g.F.Field.modulus l.initial.model l.model l.i l.columns l.column-index
