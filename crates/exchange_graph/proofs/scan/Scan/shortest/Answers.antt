use Rattle.std.proofs.Common.{ℕ, subst, sym, arith}
use Rattle.search_laws.specs.Searches.{IsSearch, HasStarts}
use Rattle.exchange_graph.specs.Marks.{members_of}
use Rattle.exchange_graph.specs.Scans.{scan_state, walk_of}
use Rattle.exchange_graph.specs.SearchAnswers.{IsSearchAnswer}
use Rattle.exchange_graph.proofs.scan.Scan.shortest.Goals as goal

pub follow-requires-clause-search : goal.follow-requires-clause-search
follow-requires-clause-search g c = subst
    (λ (n : ℕ). IsSearch (g.A.Arcs.leads c.args.arcs.now) n (scan_state c.start.new.self) 0 c.start.new.self.filled)
    (sym c.start.ensures.kept.places) (c.start.ensures.search (g.A.Arcs.leads c.args.arcs.now))

pub returns-clause-answer : goal.returns-clause-answer
returns-clause-answer g c = subst
    (λ (n : ℕ). IsSearchAnswer (g.A.Arcs.leads c.args.arcs.now) n (members_of c.args.starts.now)
    (members_of c.args.ends.now) (walk_of c.follow.new.self) (members_of c.follow.new.self.reached.items)
    c.follow.new.self.looks c.follow.result) c.start.ensures.kept.places
    (c.follow.ensures.answer (members_of c.args.starts.now)
    (subst (λ (n : ℕ). HasStarts n (members_of c.args.starts.now) (scan_state c.start.new.self))
    (sym c.start.ensures.kept.places) c.start.ensures.starts))

pub returns-clause-counted : goal.returns-clause-counted
returns-clause-counted g c =
    let C = c.follow.ensures.counted in
    record {
      told = C.told;
      all_looks = omega (arith, C.all_looks, c.start.ensures.all_looks);
      few = omega (arith, C.few, c.start.ensures.kept.places);
    }
