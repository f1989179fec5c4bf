use Rattle.std.proofs.Common.{vec_len, length, get_or, arith}
use Rattle.part_rules.specs.Listed.{arc_in, inner, marked}
use Rattle.part_search.specs.Neighbours.{listed}
use Rattle.part_search.proofs.WalkTurns.{reached-same, reaching-turned}
use Rattle.part_search.proofs.within.reaching_within.Goals as goal

pub returns : goal.returns
returns c =
    let lists = c.in_ok-neighbours.neighbours.lists.items in
    let marks = c.in_ok-marking.marking.marks in
    let ends = c.args.ends.now in
    let now = c.reach.new.self.marks.items in
    let n = length c.args.parts.now in
    let arc = inner (arc_in c.args.arcs.now) (λ x. get_or c.args.parts.now x 0) in
    reaching-turned arc n (marked ends) now
    (reached-same (λ x y. arc y x) (listed lists) n (vec_len marks) (marked ends) (marked marks.items) now
    (omega (arith, c.in_ok-marking.ensures.count, c.requires.ends)) c.in_ok-neighbours.ensures.tells
    (λ y l. c.in_ok-marking.ensures.same y (omega (arith, l, c.requires.ends))) c.in_ok-reach.ensures)
