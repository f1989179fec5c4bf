use Rattle.std.proofs.Common.{map}
use Rattle.value_lists.proofs.Rows.{ListsSome}
use Rattle.value_lists.proofs.listing.list_ones.Given as goal

abbrev pub invariant-loop : goal.invariant-loop
invariant-loop g l = ListsSome l.columns l.index (map g.F.Field.number l.initial.values.items) (map g.F.Field.number l.values.items)
