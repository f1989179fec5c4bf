use Rattle.std.proofs.Common.{◌<◌, ◌∙◌, ℕ, ap, sym, subst, length, map, arith}
use Rattle.std.proofs.lemmas.List.{length-set}
use Rattle.linear_algebra.specs.Parts.{skip}
use Rattle.smallvec.specs.SmallVec.{SmallVec}
use Rattle.limits.specs.Limits.{column_limit}
use Rattle.sparse_t.specs.Lists.{AreAllBelow}
use Rattle.sparse_t.proofs.ColumnLaws.{items-read, capacities-step}
use Rattle.sparse_t.proofs.ShelfLaws.{lists-step, rest-step}
use Rattle.sparse_t.proofs.shelf.raise_lists.Goals as goal

pub raise_list-requires : goal.raise_list-requires
raise_list-requires c =
    let I = c.loop-list.invariant in
    let lists = c.loop-list.lists in
    let k = c.loop-list.list-index in
    let within : k < length lists = omega (arith, I.count) in record {
      small = subst (λ (v : SmallVec ℕ). AreAllBelow column_limit v.items) c.list-item.is
          (subst (AreAllBelow column_limit) (sym (I.rest k (omega arith)) ∙ items-read lists k c.list-item.result within c.list-item.is)
          (c.requires.small k (omega (arith, I.count))));
    }

pub loop-list-preserved : goal.loop-list-preserved
loop-list-preserved c =
    let I = c.loop-list.invariant in
    let lists = c.loop-list.lists in
    let first = c.args.lists.now in
    let k = c.loop-list.list-index in
    let v = c.list-item.result in
    let w = c.raise_list.new.list in
    let within : k < length lists = omega (arith, I.count) in
    record {
      count = length-set lists k w ∙ I.count;
      items = lists-step (map (skip c.args.at)) first lists k v w within I.count I.items c.list-item.is
          (c.raise_list.ensures.items ∙ ap (λ (v : SmallVec ℕ). map (skip c.args.at) v.items) (sym c.list-item.is));
      rest = rest-step lists first k w I.rest;
      capacities = capacities-step lists k v w within c.list-item.is first
          (c.raise_list.ensures.capacity ∙ ap (λ (v : SmallVec ℕ). v.capacity) (sym c.list-item.is)) I.capacities;
    }
