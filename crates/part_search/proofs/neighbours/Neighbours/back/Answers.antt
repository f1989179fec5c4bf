use Rattle.std.proofs.Common.{◌∙◌, refl, sym, get_or, length, arith, eqb}
use Rattle.part_search.specs.Neighbours.{listed}
use Rattle.part_search.proofs.EntryLaws.{sum-first, sum-taken, sum-passed, sum-last, inner-below, told-turned}
use Rattle.part_search.proofs.neighbours.Neighbours.back.Goals as goal
use Rattle.part_search.proofs.neighbours.Neighbours.back.Goals.{then-parts-to+in_ok-enter, else-parts-to}

pub loop-from-init : goal.loop-from-init
loop-from-init c = record {
  count = c.in_ok-neighbours.ensures.count;
  sum = λ x y. sum-first c.args.arcs.now (λ x. get_or c.args.parts.now x 0)
      (λ x y. listed c.in_ok-neighbours.neighbours.lists.items y x) (λ x y. c.in_ok-neighbours.ensures.none y x) y x;
}

pub loop-from-preserved : goal.loop-from-preserved
loop-from-preserved c =
    let I = c.loop-from.invariant in
    let arcs = c.args.arcs.now in
    let k = c.loop-from.from-index in
    let from = (get_or arcs k (0, 0)).0 in
    let to = (get_or arcs k (0, 0)).1 in
    let lists = c.loop-from.neighbours.lists.items in
    elim c.if-parts-to.branch [
      | then-parts-to+in_ok-enter w ↦ rw w.neighbours-is (record {
        count = omega (arith, w.in_ok-enter.ensures.count, I.count);
        sum = λ x y. sum-taken arcs (λ x. get_or c.args.parts.now x 0)
            (λ x y. listed c.loop-from.neighbours.lists.items y x) k from to (omega arith) refl (λ x y. I.sum y x)
            (λ x y. listed w.enter.new.self.lists.items y x)
            (λ x y. told-turned (listed lists y x) (eqb to y) (eqb from x) (listed w.enter.new.self.lists.items y x)
            (w.in_ok-enter.ensures.holds y x)) (sym w.if-parts-to.true) y x;
      })
      | else-parts-to w ↦ rw w.neighbours-is (record {
        count = I.count;
        sum = λ x y. sum-passed arcs (λ x. get_or c.args.parts.now x 0)
            (λ x y. listed c.loop-from.neighbours.lists.items y x) k from to (omega arith) refl (λ x y. I.sum y x)
            (λ q. w.if-parts-to.false (sym q)) y x;
      })
    ]

pub returns : goal.returns
returns c =
    let tells = sum-last c.args.arcs.now (λ x. get_or c.args.parts.now x 0)
    (λ x y. listed c.loop-from.neighbours.lists.items y x) c.loop-from.from-index c.loop-from-test.false
    (λ x y. c.loop-from.invariant.sum y x) in
    record {
      count = omega (arith, c.loop-from.invariant.count);
      tells = λ x y. tells y x;
      below = λ x y h. (inner-below (length c.args.parts.now) c.args.arcs.now (λ z. get_or c.args.parts.now z 0) c.requires y x (sym (tells y x) ∙ h)).0;
    }
