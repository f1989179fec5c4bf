use Rattle.std.proofs.Common.{ℕ, ◌+◌, ◌∙◌, subst, false, arith}
use Rattle.search_laws.specs.Searches.{IsSearch, IsGrown}
use Rattle.search_laws.proofs.SearchLaws.{search-reached_set}
use Rattle.exchange_graph.specs.Marks.{members_of}
use Rattle.exchange_graph.specs.Scans.{scan_places, scan_state}
use Rattle.exchange_graph.proofs.CountLaws.{counted-more}
use Rattle.exchange_graph.proofs.ItemLaws.{differs}
use Rattle.exchange_graph.proofs.LookLaws.{looked-starts}
use Rattle.exchange_graph.proofs.scan.Scan.reach.Goals as goal

pub loop-head-init : goal.loop-head-init
loop-head-init g c = record {
  stored = c.start.ensures.stored;
  same_places = c.start.ensures.kept.places;
  same_looks = c.start.ensures.kept.looks;
  same_walk = c.start.ensures.kept.walk;
  counted = omega (arith, c.start.ensures.all_looks);
  search = c.start.ensures.search (g.A.Arcs.leads c.args.arcs.now);
  starts = c.start.ensures.starts;
}

pub loop-head-preserved : goal.loop-head-preserved
loop-head-preserved g c =
    let I = c.loop-head.invariant in
    record {
      stored = c.look.ensures.stored;
      same_places = c.look.ensures.kept.places ∙ I.same_places;
      same_looks = c.look.ensures.kept.looks ∙ I.same_looks;
      same_walk = c.look.ensures.kept.walk ∙ I.same_walk;
      counted = counted-more c.args.self.now.all_looks c.loop-head.self.all_looks c.look.new.self.all_looks c.loop-head.head I.counted c.look.ensures.all_looks;
      search = subst (λ (n : ℕ). IsSearch (g.A.Arcs.leads c.args.arcs.now) n (scan_state c.look.new.self)
          (c.loop-head.head + 1) c.look.new.self.filled) I.same_places c.look.ensures.search;
      starts = looked-starts (scan_places c.args.self.now) (members_of c.args.starts.now) (scan_state c.loop-head.self)
          (scan_state c.look.new.self) c.loop-head.self.filled
          (subst (λ (n : ℕ). IsGrown n (scan_state c.loop-head.self) (scan_state c.look.new.self) c.loop-head.self.filled)
          I.same_places c.look.ensures.grown) I.starts;
    }

pub returns-clause-reached : goal.returns-clause-reached
returns-clause-reached g c = search-reached_set (g.A.Arcs.leads c.args.arcs.now) (scan_places c.args.self.now)
    (members_of c.args.starts.now) (λ _. false) (scan_state c.loop-head.self) c.loop-head.head c.loop-head.self.filled
    c.loop-head.invariant.search c.loop-head.invariant.starts (λ j l. differs) (omega arith)
