use Rattle.std.proofs.Common.{arith}
use Rattle.number_pairs.proofs.MoveLaws.{same_pairs}
use Rattle.number_pairs.proofs.pairs.NumberPairs.room.Goals as goal

pub invariant_of-self-2 : goal.invariant_of-self-2
invariant_of-self-2 c = record {
  one_to_one = same_pairs (record {
    rights = c.self.inside.rights.items;
    lefts = c.self.inside.lefts.items;
    left_room = c.self.inside.left_room;
    right_room = c.self.inside.right_room;
  })
      (record {
        rights = c.reserve.new.self.items;
        lefts = c.reserve-2.new.self.items;
        left_room = c.max-self-inside.result;
        right_room = c.max-self-inside-2.result;
      }) c.in_ok-reserve.ensures.items c.in_ok-reserve-2.ensures.items c.self.invariant.one_to_one;
  left_room = omega (
    arith,
    c.max-self-inside.ensures,
    c.self.invariant.left_room,
    c.in_ok-reserve.ensures.ok,
    c.in_ok-reserve.ensures.capacity,
    c.len.ensures,
    c.saturating_sub.ensures,
  );
  right_room = omega (
    arith,
    c.max-self-inside-2.ensures,
    c.self.invariant.right_room,
    c.in_ok-reserve-2.ensures.ok,
    c.in_ok-reserve-2.ensures.capacity,
    c.len-2.ensures,
    c.saturating_sub-2.ensures,
  );
}
