use Rattle.std.proofs.Common.{arith, rules, ltb}
use Rattle.std.proofs.lemmas.List.Sorted.{IsPartitionPoint-from_clause, IsPartitionedBy-ltb}
use Rattle.equation_choice.proofs.PlaceLaws.{least-from, none-from, rising-by}
use Rattle.equation_choice.proofs.list.first_from.Goals as goal

pub returns-then-place-list-clause-least : goal.returns-then-place-list-clause-least
returns-then-place-list-clause-least c =
    let parted = IsPartitionedBy-ltb (λ n. n) c.args.list.now c.args.from (rising-by c.args.list.now c.requires) in
    least-from c.args.list.now c.requires c.args.from c.partition_point-place.result (omega (arith, c.partition_point-place.ensures.bound))
    (IsPartitionPoint-from_clause (λ n. ltb n c.args.from) _ _ c.partition_point-place.ensures.partitioned parted (λ a r q k. search rules))
    c.if-place-list.true

pub returns-else-place-list-clause-none : goal.returns-else-place-list-clause-none
returns-else-place-list-clause-none c =
    let parted = IsPartitionedBy-ltb (λ n. n) c.args.list.now c.args.from (rising-by c.args.list.now c.requires) in
    none-from c.args.list.now c.requires c.args.from c.partition_point-place.result (omega (arith, c.partition_point-place.ensures.bound))
    (IsPartitionPoint-from_clause (λ n. ltb n c.args.from) _ _ c.partition_point-place.ensures.partitioned parted (λ a r q k. search rules))
    (omega (arith, c.if-place-list.false))
