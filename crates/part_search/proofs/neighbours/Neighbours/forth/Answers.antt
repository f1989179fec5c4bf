use Rattle.std.proofs.Common.{◌∙◌, refl, sym, get_or, length, arith}
use Rattle.part_search.specs.Neighbours.{listed}
use Rattle.part_search.proofs.EntryLaws.{sum-first, sum-taken, sum-passed, sum-last, inner-below}
use Rattle.part_search.proofs.neighbours.Neighbours.forth.Goals as goal
use Rattle.part_search.proofs.neighbours.Neighbours.forth.Goals.{then-parts-from+in_ok-enter, else-parts-from}

pub loop-from-init : goal.loop-from-init
loop-from-init c = record {
  count = c.in_ok-neighbours.ensures.count;
  sum = sum-first c.args.arcs.now (λ x. get_or c.args.parts.now x 0) (listed c.in_ok-neighbours.neighbours.lists.items) c.in_ok-neighbours.ensures.none;
}

pub loop-from-preserved : goal.loop-from-preserved
loop-from-preserved c =
    let I = c.loop-from.invariant in
    let arcs = c.args.arcs.now in
    let k = c.loop-from.from-index in
    let from = (get_or arcs k (0, 0)).0 in
    let to = (get_or arcs k (0, 0)).1 in
    let lists = c.loop-from.neighbours.lists.items in
    elim c.if-parts-from.branch [
      | then-parts-from+in_ok-enter w ↦ rw w.neighbours-is (record {
        count = omega (arith, w.in_ok-enter.ensures.count, I.count);
        sum = sum-taken arcs (λ x. get_or c.args.parts.now x 0) (listed c.loop-from.neighbours.lists.items) k from to
            (omega arith) refl I.sum (listed w.enter.new.self.lists.items) w.in_ok-enter.ensures.holds
            w.if-parts-from.true;
      })
      | else-parts-from w ↦ rw w.neighbours-is (record {
        count = I.count;
        sum = sum-passed arcs (λ x. get_or c.args.parts.now x 0) (listed c.loop-from.neighbours.lists.items) k from to
            (omega arith) refl I.sum w.if-parts-from.false;
      })
    ]

pub returns : goal.returns
returns c =
    let tells = sum-last c.args.arcs.now (λ x. get_or c.args.parts.now x 0) (listed c.loop-from.neighbours.lists.items)
    c.loop-from.from-index c.loop-from-test.false c.loop-from.invariant.sum in
    record {
      count = omega (arith, c.loop-from.invariant.count);
      tells = tells;
      below = λ x y h. (inner-below (length c.args.parts.now) c.args.arcs.now (λ z. get_or c.args.parts.now z 0) c.requires x y (sym (tells x y) ∙ h)).1;
    }
