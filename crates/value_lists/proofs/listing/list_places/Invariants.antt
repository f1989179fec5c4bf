use Rattle.std.proofs.Common.{map}
use Rattle.value_lists.proofs.Rows.{GoesOnSome}
use Rattle.value_lists.proofs.listing.list_places.Given as goal

abbrev pub invariant-loop-column : goal.invariant-loop-column
invariant-loop-column g l = GoesOnSome g.F.Field.modulus l.rank l.initial.held.model l.held.model l.i l.columns l.column-index
    (map g.F.Field.number l.initial.values.items) (map g.F.Field.number l.values.items)
