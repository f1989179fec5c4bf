use Rattle.std.proofs.Common.{rules, ◌≡◌, ◌∙◌, ap, None, length, vec_capacity, arith}
use Rattle.std.specs.List.{insert}
use Rattle.linear_algebra.specs.Parts.{skip}
use Rattle.number_pairs.specs.Pairs.{PairLists, all_moved, left_inserted}
use Rattle.number_pairs.proofs.MoveLaws.{moved-small, stored-retold, stored-left_inserted, moved_whole}
use Rattle.number_pairs.proofs.pairs.NumberPairs.insert_left.Goals as goal

pub raise-requires : goal.raise-requires
raise-requires c = record {
  small = moved-small
      (record {
        rights = c.self.inside.rights.items;
        lefts = c.self.inside.lefts.items;
        left_room = c.self.inside.left_room;
        right_room = c.self.inside.right_room;
      })
      c.deref_mut.result.now c.deref_mut.ensures.value c.self.invariant.one_to_one (omega (arith, c.self.inside.rights.ok.0, c.self.inside.rights.small));
}

pub invariant_of-self : goal.invariant_of-self
invariant_of-self c =
    let pairs : PairLists = record {
      rights = c.self.inside.rights.items;
      lefts = c.self.inside.lefts.items;
      left_room = c.self.inside.left_room;
      right_room = c.self.inside.right_room;
    } in
    let one : c.insert.new.self.items ≡ insert c.self.inside.rights.items c.args.at None = search rules in
    let other = moved_whole (skip c.args.at) c.self.inside.lefts.len c.self.inside.lefts.items c.raise.new.numbers
    (omega (arith, c.self.inside.lefts.ok.0))
    (c.raise.ensures ∙ ap (all_moved (skip c.args.at)) c.deref_mut.ensures.value) in
    stored-retold (left_inserted pairs c.args.at) (vec_capacity c.insert.new.self) (vec_capacity c.self.inside.lefts) _ _ one other
    (stored-left_inserted pairs (vec_capacity c.self.inside.rights) (vec_capacity c.self.inside.lefts) c.args.at c.self.invariant
    (vec_capacity c.insert.new.self) (omega (arith, c.insert.ensures.capacity))
    (omega (arith, ap (λ (p : PairLists). length p.rights) c.self.view_is, c.requires.at)))
