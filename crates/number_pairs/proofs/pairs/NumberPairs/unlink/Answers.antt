use Rattle.std.proofs.Common.{◌≡◌, arith, sym, subst, Some, vec_capacity}
use Rattle.number_pairs.specs.Pairs.{PairLists, right_at}
use Rattle.number_pairs.proofs.PairLaws.{stored-parted}
use Rattle.number_pairs.proofs.pairs.NumberPairs.unlink.Goals as goal

pub index_mut-requires-2 : goal.index_mut-requires-2
index_mut-requires-2 c =
    omega (
      arith,
      c.self.inside.lefts.ok.0,
      (c.self.invariant.one_to_one.rights_point c.args.left c.args.right
          (subst (λ (p : PairLists). right_at p c.args.left ≡ Some c.args.right)
          (sym c.self.view_is) c.requires)).0,
    )

pub invariant_of-self : goal.invariant_of-self
invariant_of-self c =
    stored-parted
    (record {
      rights = c.self.inside.rights.items;
      lefts = c.self.inside.lefts.items;
      left_room = c.self.inside.left_room;
      right_room = c.self.inside.right_room;
    })
    (vec_capacity c.self.inside.rights) (vec_capacity c.self.inside.lefts) c.args.left c.args.right c.self.invariant
    (subst (λ (p : PairLists). right_at p c.args.left ≡ Some c.args.right) (sym c.self.view_is) c.requires)
