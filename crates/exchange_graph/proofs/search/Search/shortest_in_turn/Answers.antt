use Rattle.std.proofs.Common.{ℕ, ap, subst}
use Rattle.std.specs.Prelude.{IsNone, ◌↔◌}
use Rattle.closed_sets.specs.Closed.{NoEndReached}
use Rattle.exchange_graph.specs.Counts.{AreLooksTold}
use Rattle.exchange_graph.specs.Marks.{members_of}
use Rattle.exchange_graph.specs.Results.{Found, vain_of}
use Rattle.exchange_graph.specs.Scans.{walk_of}
use Rattle.exchange_graph.specs.SearchAnswers.{HasLeftOut, IsAnswerInTurn}
use Rattle.exchange_graph.specs.SweepStates.{left_by, sweep_places}
use Rattle.exchange_graph.proofs.NoneLaws.{none-in_turn}
use Rattle.exchange_graph.proofs.search.Search.shortest_in_turn.Goals as goal

pub returns-clause-none : goal.returns-clause-none
returns-clause-none g c =
    subst (λ (n : ℕ). IsNone c.search.result ↔ NoEndReached (g.A.Arcs.leads c.args.arcs.now) n
    (members_of c.args.starts.now) (members_of c.args.ends.now)) (ap (λ (f : Found). f.places) c.self.view_is)
    (none-in_turn (g.A.Arcs.leads c.args.arcs.now) (sweep_places c.self.inside.sweep) (members_of c.args.starts.now)
    (members_of c.args.ends.now) (left_by c.search.new.self) (walk_of c.search.new.self.scan) c.search.result
    c.search.ensures.answer.found c.search.ensures.answer.closed c.search.ensures.answer.reached)

pub returns-clause-answer : goal.returns-clause-answer
returns-clause-answer g c =
    subst (λ (n : ℕ). IsAnswerInTurn (g.A.Arcs.leads c.args.arcs.now) n (members_of c.args.starts.now)
    (members_of c.args.ends.now) (walk_of c.search.new.self.scan) (left_by c.search.new.self)
    c.search.new.self.next c.search.result) (ap (λ (f : Found). f.places) c.self.view_is) c.search.ensures.answer

pub returns-clause-left : goal.returns-clause-left
returns-clause-left g c =
    subst (λ (f : Found). HasLeftOut (g.A.Arcs.leads c.args.arcs.now) f.places (members_of c.args.starts.now)
    (members_of c.args.ends.now) (vain_of f) (left_by c.search.new.self) c.search.new.self.next
    c.search.new.self.scan.looks c.search.result) c.self.view_is c.search.ensures.left

pub returns-clause-counted : goal.returns-clause-counted
returns-clause-counted g c =
    subst (λ (f : Found). AreLooksTold f.places c.search.new.self.scan.looks c.args.steps.now c.search.new.steps
    f.all_looks c.search.new.self.scan.all_looks) c.self.view_is c.search.ensures.counted
