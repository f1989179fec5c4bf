use Rattle.std.proofs.Common.{ℕ, ◌+◌, ◌∙◌, refl, subst, sym, arith, rules}
use Rattle.search_laws.specs.Searches.{IsSearch, IsGrown}
use Rattle.search_laws.proofs.SearchLaws.{search-closed, search-reached_set}
use Rattle.exchange_graph.specs.Marks.{members_of}
use Rattle.exchange_graph.specs.Scans.{scan_places, scan_state, walk_of}
use Rattle.exchange_graph.proofs.CountLaws.{counted-more, looked-at}
use Rattle.exchange_graph.proofs.ItemLaws.{item_read}
use Rattle.exchange_graph.proofs.LookLaws.{looked-starts, looked-ends, depth-below, found-shortest}
use Rattle.exchange_graph.proofs.scan.Scan.follow.Goals as goal

pub loop-head-init : goal.loop-head-init
loop-head-init g c = record {
  stored = c.requires.stored;
  same_places = refl;
  search = c.requires.search;
  starts = λ starts h. h;
  none = λ j l. absurd (omega arith);
  same_walk = refl;
  counted = omega arith;
  ticked = omega arith;
}

pub look-requires-clause-search : goal.look-requires-clause-search
look-requires-clause-search g c = subst
    (λ (n : ℕ). IsSearch (g.A.Arcs.leads c.args.arcs.now) n (scan_state c.loop-head.self) c.loop-head.head
    c.loop-head.self.filled) (sym c.loop-head.invariant.same_places) c.loop-head.invariant.search

pub loop-head-preserved : goal.loop-head-preserved
loop-head-preserved g c =
    let I = c.loop-head.invariant in
    let q = item_read c.loop-head.self.order.items c.loop-head.head c.index-place.result.now (omega (arith, I.search.filled_le)) c.index-place.ensures in
    let G = subst (λ (n : ℕ). IsGrown n (scan_state c.loop-head.self) (scan_state c.look.new.self) c.loop-head.self.filled) I.same_places
    c.look.ensures.grown in
    record {
      stored = c.look.ensures.stored;
      same_places = c.look.ensures.kept.places ∙ I.same_places;
      search = subst (λ (n : ℕ). IsSearch (g.A.Arcs.leads c.args.arcs.now) n (scan_state c.look.new.self)
          (c.loop-head.head + 1) c.look.new.self.filled) I.same_places c.look.ensures.search;
      starts = λ starts h. looked-starts (scan_places c.args.self.now) starts (scan_state c.loop-head.self)
          (scan_state c.look.new.self) c.loop-head.self.filled G (I.starts starts h);
      none = looked-ends (g.A.Arcs.leads c.args.arcs.now) (scan_places c.args.self.now) (members_of c.args.ends.now)
          (scan_state c.loop-head.self) (scan_state c.look.new.self) c.loop-head.head c.loop-head.self.filled
          c.index-place.result.now
          I.search c.loop-head-test.true G I.none q c.if-ends-place.false;
      same_walk = c.look.ensures.kept.walk ∙ I.same_walk;
      counted = counted-more c.args.self.now.all_looks c.loop-head.self.all_looks c.look.new.self.all_looks c.loop-head.head I.counted c.look.ensures.all_looks;
      ticked = omega (arith, c.tick.ensures, I.ticked);
    }

pub trace-requires-clause-depth : goal.trace-requires-clause-depth
trace-requires-clause-depth g c =
    let S = c.loop-head.invariant.search in
    let q = item_read c.loop-head.self.order.items c.loop-head.head c.index-place.result.now (omega (arith, S.filled_le)) c.index-place.ensures in
    let below = S.below c.loop-head.head (omega (arith, S.filled_le)) in
    let d = item_read c.loop-head.self.depth.items c.index-place.result.now c.index-depth.result.now (omega (arith, below, q)) c.index-depth.ensures in
    omega (
      arith,
      depth-below (g.A.Arcs.leads c.args.arcs.now) (scan_places c.args.self.now) (scan_state c.loop-head.self)
          c.loop-head.head c.loop-head.self.filled c.index-place.result.now c.index-depth.result.now S
          c.loop-head-test.true q d,
    )

pub returns-then-ends-place-clause-answer : goal.returns-then-ends-place-clause-answer
returns-then-ends-place-clause-answer g c = λ starts h.
    let arc = g.A.Arcs.leads c.args.arcs.now in
    let n = scan_places c.args.self.now in
    let ends = members_of c.args.ends.now in
    let s = scan_state c.loop-head.self in
    let I = c.loop-head.invariant in
    let S = I.search in
    let q = item_read c.loop-head.self.order.items c.loop-head.head c.index-place.result.now (omega (arith, S.filled_le)) c.index-place.ensures in
    let below = S.below c.loop-head.head (omega (arith, S.filled_le)) in
    let d = item_read c.loop-head.self.depth.items c.index-place.result.now c.index-depth.result.now (omega (arith, below, q)) c.index-depth.ensures in
    record {
      found = found-shortest arc n starts ends s c.loop-head.head c.loop-head.self.filled c.index-place.result.now
          c.index-depth.result.now (walk_of c.trace.new.self) S (I.starts starts h) I.none c.loop-head-test.true q d
          c.if-ends-place.true c.trace.ensures.last c.trace.ensures.back;
      looked = looked-at arc n starts ends s c.loop-head.head c.loop-head.self.filled S (I.starts starts h) I.none
          c.index-place.result.now c.index-depth.result.now c.loop-head-test.true q d;
      closed = tt;
      reached = tt;
      size = tt;
    }

pub returns-clause-answer : goal.returns-clause-answer
returns-clause-answer g c = λ starts h.
    let arc = g.A.Arcs.leads c.args.arcs.now in
    let n = scan_places c.args.self.now in
    let ends = members_of c.args.ends.now in
    let s = scan_state c.loop-head.self in
    let I = c.loop-head.invariant in
    record {
      found = tt;
      looked = tt;
      closed = search-closed arc n starts ends s c.loop-head.head c.loop-head.self.filled I.search (I.starts starts h)
          I.none (omega arith);
      reached = search-reached_set arc n starts ends s c.loop-head.head c.loop-head.self.filled I.search
          (I.starts starts h) I.none (omega arith);
      size = search rules;
    }
