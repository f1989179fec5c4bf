use Rattle.std.proofs.Common.{◌<◌, ◌∙◌, ℕ, ap, sym, length, map, arith}
use Rattle.std.proofs.lemmas.List.{length-set}
use Rattle.linear_algebra.specs.Parts.{unskip}
use Rattle.smallvec.specs.SmallVec.{SmallVec}
use Rattle.sparse_t.proofs.ColumnLaws.{capacities-step}
use Rattle.sparse_t.proofs.ShelfLaws.{lists-step, rest-step}
use Rattle.sparse_t.proofs.shelf.lower_lists.Goals as goal

pub loop-list-preserved : goal.loop-list-preserved
loop-list-preserved c =
    let I = c.loop-list.invariant in
    let lists = c.loop-list.lists in
    let first = c.args.lists.now in
    let k = c.loop-list.list-index in
    let v = c.list-item.result in
    let w = c.lower_list.new.list in
    let within : k < length lists = omega (arith, I.count) in
    record {
      count = length-set lists k w ∙ I.count;
      items = lists-step (map (unskip c.args.at)) first lists k v w within I.count I.items c.list-item.is
          (c.lower_list.ensures.items ∙ ap (λ (v : SmallVec ℕ). map (unskip c.args.at) v.items) (sym c.list-item.is));
      rest = rest-step lists first k w I.rest;
      capacities = capacities-step lists k v w within c.list-item.is first
          (c.lower_list.ensures.capacity ∙ ap (λ (v : SmallVec ℕ). v.capacity) (sym c.list-item.is)) I.capacities;
    }
