use Rattle.std.proofs.Common.{ℕ, ap, subst}
use Rattle.std.specs.Prelude.{IsNone, ◌↔◌}
use Rattle.closed_sets.specs.Closed.{NoEndReached}
use Rattle.exchange_graph.specs.Counts.{AreLooksTold}
use Rattle.exchange_graph.specs.Marks.{members_of}
use Rattle.exchange_graph.specs.Results.{Found}
use Rattle.exchange_graph.specs.Scans.{scan_places, walk_of}
use Rattle.exchange_graph.specs.SearchAnswers.{IsSearchAnswer}
use Rattle.exchange_graph.proofs.NoneLaws.{none-exactly}
use Rattle.exchange_graph.proofs.search.Search.shortest.Goals as goal

pub returns-clause-none : goal.returns-clause-none
returns-clause-none g c =
    subst (λ (n : ℕ). IsNone c.shortest.result ↔ NoEndReached (g.A.Arcs.leads c.args.arcs.now) n
    (members_of c.args.starts.now) (members_of c.args.ends.now)) (ap (λ (f : Found). f.places) c.self.view_is)
    (none-exactly (g.A.Arcs.leads c.args.arcs.now) (scan_places c.self.inside.sweep.scan) (members_of c.args.starts.now)
    (members_of c.args.ends.now) (members_of c.shortest.new.self.reached.items) (walk_of c.shortest.new.self)
    c.shortest.result
    c.shortest.ensures.answer.found c.shortest.ensures.answer.closed c.shortest.ensures.answer.reached)

pub returns-clause-answer : goal.returns-clause-answer
returns-clause-answer g c =
    subst (λ (n : ℕ). IsSearchAnswer (g.A.Arcs.leads c.args.arcs.now) n (members_of c.args.starts.now)
    (members_of c.args.ends.now) (walk_of c.shortest.new.self) (members_of c.shortest.new.self.reached.items)
    c.shortest.new.self.looks c.shortest.result) (ap (λ (f : Found). f.places) c.self.view_is)
    c.shortest.ensures.answer

pub returns-clause-counted : goal.returns-clause-counted
returns-clause-counted g c =
    subst (λ (f : Found). AreLooksTold f.places c.shortest.new.self.looks c.args.steps.now c.shortest.new.steps
    f.all_looks c.shortest.new.self.all_looks) c.self.view_is c.shortest.ensures.counted
