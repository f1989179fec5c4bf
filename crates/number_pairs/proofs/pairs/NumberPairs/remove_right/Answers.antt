use Rattle.std.proofs.Common.{rules, ◌≡◌, ◌∙◌, ap, sym, subst, None, length, vec_capacity, arith}
use Rattle.std.specs.List.{remove}
use Rattle.linear_algebra.specs.Parts.{unskip}
use Rattle.number_pairs.specs.Pairs.{PairLists, all_moved, left_at, right_removed}
use Rattle.number_pairs.proofs.MoveLaws.{stored-retold, stored-right_removed, moved_whole}
use Rattle.number_pairs.proofs.pairs.NumberPairs.remove_right.Goals as goal

pub invariant_of-self : goal.invariant_of-self
invariant_of-self c =
    let pairs : PairLists = record {
      rights = c.self.inside.rights.items;
      lefts = c.self.inside.lefts.items;
      left_room = c.self.inside.left_room;
      right_room = c.self.inside.right_room;
    } in
    let one : c.remove.new.self.items ≡ remove c.self.inside.lefts.items c.args.at = search rules in
    let other = moved_whole (unskip c.args.at) c.self.inside.rights.len c.self.inside.rights.items c.lower.new.numbers
    (omega (arith, c.self.inside.rights.ok.0))
    (c.lower.ensures ∙ ap (all_moved (unskip c.args.at)) c.deref_mut.ensures.value) in
    stored-retold (right_removed pairs c.args.at) (vec_capacity c.self.inside.rights) (vec_capacity c.remove.new.self) _ _ other one
    (stored-right_removed pairs (vec_capacity c.self.inside.rights) (vec_capacity c.self.inside.lefts) c.args.at c.self.invariant
    (vec_capacity c.remove.new.self) (omega (arith, c.remove.ensures.capacity))
    (omega (arith, ap (λ (p : PairLists). length p.lefts) c.self.view_is, c.requires.at))
    (subst (λ (p : PairLists). left_at p c.args.at ≡ None) (sym c.self.view_is) c.requires.free))
