use Rattle.std.proofs.Common.{◌+◌, ◌<◌, ◌∙◌, refl, subst, arith, rules}
use Rattle.exchange_graph.specs.Scans.{scan_places, scan_state, position_of}
use Rattle.exchange_graph.specs.Turns.{HasNextTurn, HaveHadTurns}
use Rattle.exchange_graph.proofs.ItemLaws.{item_read, mark_read}
use Rattle.exchange_graph.proofs.LookLaws.{waits-late, looking-first, looking-put, looking-skip, looking-done}
use Rattle.exchange_graph.proofs.scan.Scan.look.Goals as goal

pub loop-to-init : goal.loop-to-init
loop-to-init g c =
    let S = c.requires.search in
    let at = item_read c.args.self.now.order.items c.args.head c.index-place.result.now
    (omega (arith, S.filled_le, c.requires.head)) c.index-place.ensures in
    let below = S.below c.args.head (omega (arith, S.filled_le, c.requires.head)) in
    record {
      stored = search rules;
      same_places = refl;
      same_looks = refl;
      same_walk = refl;
      counted = c.saturating_add-self.ensures;
      fits = omega arith;
      looking = looking-first (g.A.Arcs.leads c.args.arcs.now) (g.A.Arcs.turn c.args.arcs.now)
          (scan_places c.args.self.now) (scan_state c.args.self.now) c.args.head c.args.self.now.filled
          c.index-place.result.now c.index.result.now S c.requires.head at
          (item_read c.args.self.now.depth.items c.index-place.result.now c.index.result.now
          (omega (arith, at, below, c.requires.stored.sized.depth)) c.index.ensures);
    }

pub put-requires-clause-room : goal.put-requires-clause-room
put-requires-clause-room g c =
    let I = c.loop-to.invariant in
    let below : c.in-Some.to < scan_places c.loop-to.self =
    omega (arith, I.same_places, c.in-Some.ensures.some.below, c.requires.places) in
    waits-late (g.A.Arcs.leads c.args.arcs.now) (scan_places c.args.self.now) (scan_state c.loop-to.self) c.args.head
    c.loop-to.self.filled (position_of c.loop-to.self c.in-Some.to) c.in-Some.to I.looking.search
    (I.stored.order_position c.in-Some.to below)
    (mark_read c.loop-to.self.reached.items c.in-Some.to c.index-in-Some.result.now
    (omega (arith, I.stored.sized.reached, below)) c.index-in-Some.ensures ∙ c.if-not-index.true)

pub loop-to-preserved-then-not-index : goal.loop-to-preserved-then-not-index
loop-to-preserved-then-not-index g c =
    let I = c.loop-to.invariant in
    let arc = g.A.Arcs.leads c.args.arcs.now in
    let turn = g.A.Arcs.turn c.args.arcs.now in
    let n = scan_places c.args.self.now in
    let to = c.in-Some.to in
    let N = subst (λ m. HasNextTurn (arc c.index-place.result.now) (turn c.index-place.result.now) m
    c.loop-to.from to c.in-Some.next) c.requires.places c.in-Some.ensures.some in
    let below : to < scan_places c.loop-to.self = omega (arith, I.same_places, N.below) in
    let read = mark_read c.loop-to.self.reached.items to c.index-in-Some.result.now
    (omega (arith, I.stored.sized.reached, below)) c.index-in-Some.ensures in
    record {
      stored = c.put.ensures.stored;
      same_places = c.put.ensures.kept.places ∙ I.same_places;
      same_looks = c.put.ensures.kept.looks ∙ I.same_looks;
      same_walk = c.put.ensures.kept.walk ∙ I.same_walk;
      counted = c.put.ensures.all_looks ∙ I.counted;
      fits = N.fits;
      looking = looking-put arc turn n (scan_state c.args.self.now) (scan_state c.loop-to.self)
          (scan_state c.put.new.self) c.args.self.now.filled c.args.head c.loop-to.self.filled c.put.new.self.filled
          (position_of c.loop-to.self to) c.loop-to.from to c.in-Some.next c.index-place.result.now
          (c.index.result.now + 1) I.looking N (omega (arith, I.same_places, I.stored.position_below to below))
          (I.stored.order_position to below) (read ∙ c.if-not-index.true) c.put.ensures.put c.put.ensures.filled;
    }

pub loop-to-preserved : goal.loop-to-preserved
loop-to-preserved g c =
    let I = c.loop-to.invariant in
    let arc = g.A.Arcs.leads c.args.arcs.now in
    let turn = g.A.Arcs.turn c.args.arcs.now in
    let to = c.in-Some.to in
    let N = subst (λ m. HasNextTurn (arc c.index-place.result.now) (turn c.index-place.result.now) m
    c.loop-to.from to c.in-Some.next) c.requires.places c.in-Some.ensures.some in
    let read = mark_read c.loop-to.self.reached.items to c.index-in-Some.result.now
    (omega (arith, I.same_places, N.below, I.stored.sized.reached)) c.index-in-Some.ensures in
    record {
      stored = I.stored;
      same_places = I.same_places;
      same_looks = I.same_looks;
      same_walk = I.same_walk;
      counted = I.counted;
      fits = N.fits;
      looking = looking-skip arc turn (scan_places c.args.self.now) (scan_state c.args.self.now) (scan_state c.loop-to.self)
          c.args.self.now.filled c.args.head c.loop-to.self.filled c.loop-to.from to c.in-Some.next
          c.index-place.result.now (c.index.result.now + 1) I.looking N (read ∙ c.if-not-index.false);
    }

pub returns-clause-search : goal.returns-clause-search
returns-clause-search g c =
    let arc = g.A.Arcs.leads c.args.arcs.now in
    let turn = g.A.Arcs.turn c.args.arcs.now in
    looking-done arc turn (scan_places c.args.self.now) (scan_state c.args.self.now) (scan_state c.loop-to.self)
    c.args.self.now.filled c.args.head c.loop-to.self.filled c.loop-to.from _ _ c.loop-to.invariant.looking
    (subst (λ m. HaveHadTurns (arc c.index-place.result.now) (turn c.index-place.result.now) m c.loop-to.from)
    c.requires.places c.in_default.ensures.none)
