use Rattle.std.proofs.Common.{◌<◌, ◌≡◌, length, sym, subst, None, vec_capacity}
use Rattle.number_pairs.specs.Pairs.{PairLists, left_at, right_at}
use Rattle.number_pairs.proofs.PairLaws.{stored-paired}
use Rattle.number_pairs.proofs.pairs.NumberPairs.link.Goals as goal

pub invariant_of-self : goal.invariant_of-self
invariant_of-self c =
    let view = sym c.self.view_is in
    stored-paired
    (record {
      rights = c.self.inside.rights.items;
      lefts = c.self.inside.lefts.items;
      left_room = c.self.inside.left_room;
      right_room = c.self.inside.right_room;
    })
    (vec_capacity c.self.inside.rights) (vec_capacity c.self.inside.lefts) c.args.left c.args.right c.self.invariant
    (subst (λ (p : PairLists). c.args.left < length p.rights) view c.requires.left)
    (subst (λ (p : PairLists). c.args.right < length p.lefts) view c.requires.right)
    (subst (λ (p : PairLists). right_at p c.args.left ≡ None) view c.requires.left_free)
    (subst (λ (p : PairLists). left_at p c.args.right ≡ None) view c.requires.right_free)
