use Rattle.std.proofs.Common.{◌≡◌, ◌<◌, ◌≤◌, ℕ, true, subst, arith, rules}
use Rattle.exchange_graph.specs.Marks.{members_of}
use Rattle.exchange_graph.specs.SweepStates.{left_by, sweep_places}
use Rattle.exchange_graph.proofs.SweepLaws.{looked-few, looked-vain, swept-closed, swept-reached}
use Rattle.exchange_graph.proofs.sweep.Sweep.search.Goals as goal

pub returns-clause-answer : goal.returns-clause-answer
returns-clause-answer g c =
    let arc = g.A.Arcs.leads c.args.arcs.now in
    let n = sweep_places c.args.self.now in
    let starts = members_of c.args.starts.now in
    let ends = members_of c.args.ends.now in
    let I = c.loop-start.invariant in
    let held : (x : ℕ) → x < n → starts x ≡ true → left_by c.loop-start.self x ≡ true =
    λ x l. I.held x l (omega (arith, l, c.loop-start-test.false, c.len-places.ensures, c.requires.stored.marks)) in
    record {
      found = tt;
      first = tt;
      closed = swept-closed arc n starts ends (left_by c.loop-start.self) I.sweeping.vain held;
      reached = swept-reached arc n starts ends (left_by c.loop-start.self) I.sweeping.vain held;
    }

pub returns-clause-left : goal.returns-clause-left
returns-clause-left g c =
    let s = c.args.self.now in
    let I = c.loop-start.invariant.sweeping in
    record {
      left = search rules;
      grown = I.kept;
      looked = looked-vain (sweep_places s) (left_by s) (left_by c.loop-start.self) I.kept (g.A.Arcs.leads c.args.arcs.now)
          (members_of c.args.starts.now) (members_of c.args.ends.now) c.loop-start.self.scan.looks I.vain I.size;
      size = I.size;
    }

pub returns-clause-counted : goal.returns-clause-counted
returns-clause-counted g c =
    let s = c.args.self.now in
    let I = c.loop-start.invariant in
    record {
      told = I.told;
      all_looks = I.counted;
      few = looked-few (g.A.Arcs.leads c.args.arcs.now) (sweep_places s) (members_of c.args.starts.now)
          (members_of c.args.ends.now) (left_by s) c.loop-start.self.scan.looks
          (looked-vain (sweep_places s) (left_by s) (left_by c.loop-start.self) I.sweeping.kept
          (g.A.Arcs.leads c.args.arcs.now) (members_of c.args.starts.now) (members_of c.args.ends.now)
          c.loop-start.self.scan.looks I.sweeping.vain I.sweeping.size);
    }

pub returns-in-Some-clause-counted : goal.returns-in-Some-clause-counted
returns-in-Some-clause-counted g c =
    let s = c.args.self.now in
    let I = c.loop-start.invariant in
    record {
      told = omega (arith, I.told, c.search_at.ensures.swept.told);
      all_looks = c.search_at.ensures.swept.all_looks s.scan.all_looks I.counted;
      few = subst (λ (n : ℕ). c.search_at.new.self.scan.looks ≤ n) I.sweeping.places
          (looked-few (g.A.Arcs.leads c.args.arcs.now) (sweep_places c.loop-start.self) (members_of c.args.starts.now)
          (members_of c.args.ends.now) (left_by s) c.search_at.new.self.scan.looks
          (c.search_at.ensures.looked (left_by s) (search rules)));
    }
