use Rattle.std.proofs.Common.{ℕ, subst, arith}
use Rattle.search_laws.specs.Searches.{IsSearch}
use Rattle.search_laws.proofs.SearchLaws.{search-start}
use Rattle.exchange_graph.specs.Scans.{scan_places, scan_state, position_of}
use Rattle.exchange_graph.proofs.LookLaws.{started-at, started-starts}
use Rattle.exchange_graph.proofs.scan.Scan.start_at.Goals as goal

pub returns-clause-search : goal.returns-clause-search
returns-clause-search c = λ arc.
    let N = c.clear.new.self in
    let E = c.clear.ensures in
    let n = scan_places c.args.self.now in
    let S = subst (λ (m : ℕ). IsSearch arc m (scan_state N) 0 0) E.kept.places
    (search-start arc (scan_places N) (scan_state N) (position_of N) E.stored.order_below E.stored.position_below
    E.stored.position_order E.stored.order_position (λ y l. E.reached y (omega (arith, l, E.kept.places)))) in
    started-at arc n (scan_state N) (scan_state c.put.new.self) c.clear.new.self.filled c.put.new.self.filled
    (position_of N c.args.place) c.args.place S E.filled c.put.ensures.filled
    (omega (arith, E.kept.places, E.stored.position_below c.args.place (omega (arith, E.kept.places, c.requires.place))))
    c.put.ensures.put

pub returns-clause-starts : goal.returns-clause-starts
returns-clause-starts c =
    let N = c.clear.new.self in
    let E = c.clear.ensures in
    started-starts (scan_places c.args.self.now) (scan_state N) (scan_state c.put.new.self) c.clear.new.self.filled
    (position_of N c.args.place) c.args.place
    (E.stored.order_position c.args.place (omega (arith, E.kept.places, c.requires.place))) E.reached c.put.ensures.put
