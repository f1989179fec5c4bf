use Rattle.std.proofs.Common.{arith, rules, ltb}
use Rattle.std.proofs.lemmas.List.Sorted.{IsPartitionPoint-from_clause, IsPartitionedBy-ltb}
use Rattle.row_entries.proofs.RowLaws.{columns-rise, place-found}
use Rattle.row_entries.proofs.entry.place_from.Goals as goal

pub returns : goal.returns
returns g c =
    let parted = IsPartitionedBy-ltb (λ e. e.column) c.args.entries.now c.args.column
    (columns-rise (λ e. record { column = e.column; number = g.F.Field.number e.value }) c.args.entries.now c.requires) in
    place-found (λ e. record { column = e.column; number = g.F.Field.number e.value }) c.args.entries.now c.requires
    c.args.column c.partition_point.result (omega (arith, c.partition_point.ensures.bound))
    (IsPartitionPoint-from_clause (λ e. ltb e.column c.args.column) _ _ c.partition_point.ensures.partitioned parted
    (λ a r q k. search rules))
