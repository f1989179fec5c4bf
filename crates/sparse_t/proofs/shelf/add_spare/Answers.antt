use Rattle.std.proofs.Common.{rules, ◌≡◌, ◌++◌, ◌∷◌, [], arith}
use Rattle.sparse_t.proofs.ShelfLaws.{wide-push}
use Rattle.sparse_t.proofs.shelf.add_spare.Goals as goal

pub loop-list-preserved : goal.loop-list-preserved
loop-list-preserved c =
    let I = c.loop-list.invariant in
    let told : c.push.new.self.items ≡ c.loop-list.spare.items ++ c.in_ok-with_capacity.field-0 ∷ [] = search rules in record {
      room = omega (arith, I.room, c.push.ensures.capacity);
      kept = λ w le W. wide-push c.loop-list.spare.items c.push.new.self.items c.in_ok-with_capacity.field-0 w told
          (omega (arith, c.in_ok-with_capacity.ensures.capacity)) (I.kept w le W);
      count = omega (arith, I.count, c.in_ok-push.ensures.len);
    }
