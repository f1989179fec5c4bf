use Rattle.std.proofs.Common.{ℕ, ◌∙◌, ◌<◌, subst, false, arith}
use Rattle.search_laws.specs.Searches.{IsSearch}
use Rattle.search_laws.proofs.SearchLaws.{search-start}
use Rattle.exchange_graph.specs.Marks.{members_of}
use Rattle.exchange_graph.specs.Scans.{scan_places, scan_state, position_of}
use Rattle.exchange_graph.proofs.LookLaws.{waits-late, starting-first, starting-put, starting-skip, starting-done}
use Rattle.exchange_graph.proofs.scan.Scan.start.Goals as goal
use Rattle.exchange_graph.proofs.scan.Scan.start.Goals.{then-is_start, else-is_start}

pub loop-place-init : goal.loop-place-init
loop-place-init c =
    let N = c.clear.new.self in
    let E = c.clear.ensures in
    record {
      stored = E.stored;
      same_places = E.kept.places;
      same_looks = E.kept.looks;
      same_walk = E.kept.walk;
      same_count = E.all_looks;
      starting = λ arc. starting-first arc (scan_places c.args.self.now) (members_of c.args.starts.now) (scan_state N) N.filled E.filled
          (subst (λ (n : ℕ). IsSearch arc n (scan_state N) 0 0) E.kept.places
          (search-start arc (scan_places N) (scan_state N) (position_of N) E.stored.order_below E.stored.position_below
          E.stored.position_order E.stored.order_position (λ y l. E.reached y (omega (arith, l, E.kept.places)))))
          E.reached;
    }

pub put-requires-clause-waits : goal.put-requires-clause-waits
put-requires-clause-waits c = (c.loop-place.invariant.starting (λ _ _. false)).waiting c.loop-place.place (omega arith) (omega (arith, c.requires.starts))

pub put-requires-clause-room : goal.put-requires-clause-room
put-requires-clause-room c =
    let I = c.loop-place.invariant in
    let B = I.starting (λ _ _. false) in
    waits-late (λ _ _. false) (scan_places c.args.self.now) (scan_state c.loop-place.self) 0 c.loop-place.self.filled
    (position_of c.loop-place.self c.loop-place.place) c.loop-place.place B.search
    (I.stored.order_position c.loop-place.place (omega (arith, I.same_places, c.requires.starts)))
    (B.waiting c.loop-place.place (omega arith) (omega (arith, c.requires.starts)))

pub loop-place-preserved : goal.loop-place-preserved
loop-place-preserved c =
    let I = c.loop-place.invariant in
    let here = c.loop-place.place in
    let below : here < scan_places c.loop-place.self = omega (arith, I.same_places, c.requires.starts) in
    elim c.if-is_start.branch [
      | then-is_start w ↦ rw w.self-is (record {
        stored = w.put.ensures.stored;
        same_places = w.put.ensures.kept.places ∙ I.same_places;
        same_looks = w.put.ensures.kept.looks ∙ I.same_looks;
        same_walk = w.put.ensures.kept.walk ∙ I.same_walk;
        same_count = w.put.ensures.all_looks ∙ I.same_count;
        starting = λ arc. starting-put arc (scan_places c.args.self.now) (members_of c.args.starts.now)
            (scan_state c.loop-place.self) (scan_state w.put.new.self) c.loop-place.self.filled w.put.new.self.filled
            (position_of c.loop-place.self here) here here (I.starting arc)
            (omega (arith, I.same_places)) (omega (arith, I.same_places, I.stored.position_below here below))
            (I.stored.order_position here below) w.if-is_start.true w.put.ensures.put w.put.ensures.filled;
      })
      | else-is_start w ↦ rw w.self-is (record {
        stored = I.stored;
        same_places = I.same_places;
        same_looks = I.same_looks;
        same_walk = I.same_walk;
        same_count = I.same_count;
        starting = λ arc. starting-skip arc (scan_places c.args.self.now) (members_of c.args.starts.now)
            (scan_state c.loop-place.self) c.loop-place.self.filled here (I.starting arc) w.if-is_start.false;
      })
    ]

pub returns-clause-search : goal.returns-clause-search
returns-clause-search c = λ arc. (c.loop-place.invariant.starting arc).search

pub returns-clause-starts : goal.returns-clause-starts
returns-clause-starts c = starting-done (λ _ _. false) (scan_places c.args.self.now) (members_of c.args.starts.now)
    (scan_state c.loop-place.self) c.loop-place.self.filled c.loop-place.place
    (c.loop-place.invariant.starting (λ _ _. false)) (omega arith)
