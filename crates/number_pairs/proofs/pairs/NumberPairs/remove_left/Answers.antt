use Rattle.std.proofs.Common.{rules, ◌≡◌, ◌∙◌, ap, sym, subst, None, length, vec_capacity, arith}
use Rattle.std.specs.List.{remove}
use Rattle.linear_algebra.specs.Parts.{unskip}
use Rattle.number_pairs.specs.Pairs.{PairLists, all_moved, right_at, left_removed}
use Rattle.number_pairs.proofs.MoveLaws.{stored-retold, stored-left_removed, moved_whole}
use Rattle.number_pairs.proofs.pairs.NumberPairs.remove_left.Goals as goal

pub invariant_of-self : goal.invariant_of-self
invariant_of-self c =
    let pairs : PairLists = record {
      rights = c.self.inside.rights.items;
      lefts = c.self.inside.lefts.items;
      left_room = c.self.inside.left_room;
      right_room = c.self.inside.right_room;
    } in
    let one : c.remove.new.self.items ≡ remove c.self.inside.rights.items c.args.at = search rules in
    let other = moved_whole (unskip c.args.at) c.self.inside.lefts.len c.self.inside.lefts.items c.lower.new.numbers
    (omega (arith, c.self.inside.lefts.ok.0))
    (c.lower.ensures ∙ ap (all_moved (unskip c.args.at)) c.deref_mut.ensures.value) in
    stored-retold (left_removed pairs c.args.at) (vec_capacity c.remove.new.self) (vec_capacity c.self.inside.lefts) _ _ one other
    (stored-left_removed pairs (vec_capacity c.self.inside.rights) (vec_capacity c.self.inside.lefts) c.args.at c.self.invariant
    (vec_capacity c.remove.new.self) (omega (arith, c.remove.ensures.capacity))
    (omega (arith, ap (λ (p : PairLists). length p.rights) c.self.view_is, c.requires.at))
    (subst (λ (p : PairLists). right_at p c.args.at ≡ None) (sym c.self.view_is) c.requires.free))
