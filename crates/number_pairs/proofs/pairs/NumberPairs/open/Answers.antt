use Rattle.std.proofs.Common.{rules, vec_capacity}
use Rattle.number_pairs.specs.Pairs.{PairLists}
use Rattle.number_pairs.proofs.PairLaws.{stored-none}
use Rattle.number_pairs.proofs.pairs.NumberPairs.open.Goals as goal

pub invariant_of-result : goal.invariant_of-result
invariant_of-result c =
    let pairs : PairLists = record {
      rights = c.in_ok-vec.field-0.items;
      lefts = c.in_ok-vec-2.field-0.items;
      left_room = 0;
      right_room = 0;
    } in
    stored-none pairs c.args.lefts c.args.rights (vec_capacity c.in_ok-vec.field-0) (vec_capacity c.in_ok-vec-2.field-0)
    (search rules)
