use Rattle.std.proofs.Common.{vec_len, length, get_or, arith}
use Rattle.part_rules.specs.Listed.{arc_in, inner, marked}
use Rattle.part_search.specs.Neighbours.{listed}
use Rattle.part_search.proofs.WalkTurns.{reached-same}
use Rattle.part_search.proofs.within.reached_within.Goals as goal

pub returns : goal.returns
returns c =
    let lists = c.in_ok-neighbours.neighbours.lists.items in
    let marks = c.in_ok-marking.marking.marks in
    let starts = c.args.starts.now in
    reached-same (inner (arc_in c.args.arcs.now) (λ x. get_or c.args.parts.now x 0)) (listed lists)
    (length c.args.parts.now) (vec_len marks) (marked starts) (marked marks.items) c.reach.new.self.marks.items
    (omega (arith, c.in_ok-marking.ensures.count, c.requires.starts)) c.in_ok-neighbours.ensures.tells
    (λ y l. c.in_ok-marking.ensures.same y (omega (arith, l, c.requires.starts))) c.in_ok-reach.ensures
