use Rattle.std.proofs.Common.{◌≡◌, ℕ, ap, sym, subst, ◌∙◌, arith}
use Rattle.exchange_graph.specs.Marks.{members_of}
use Rattle.minimiser_lattice.specs.Components.{component_places, path_state}
use Rattle.minimiser_lattice.specs.Paths.{IsGoing}
use Rattle.minimiser_lattice.proofs.PathLaws.{enter_room, entered-next, entered-seen, entered-smaller}
use Rattle.minimiser_lattice.proofs.components.Components.explore.Goals as goal

pub advance-requires-clause-places : goal.advance-requires-clause-places
advance-requires-clause-places g c = omega (arith, c.requires.places, c.loop-self.invariant.same_places)

pub advance-requires-clause-going : goal.advance-requires-clause-going
advance-requires-clause-going g c =
    subst (λ (n : ℕ). IsGoing (g.A.Arcs.leads c.args.arcs.now) (g.A.Arcs.turn c.args.arcs.now) n (path_state c.loop-self.self))
    (sym c.loop-self.invariant.same_places) c.loop-self.invariant.going

pub enter-requires-clause-height : goal.enter-requires-clause-height
enter-requires-clause-height g c = let E = c.in-Some.ensures.found in let t = c.advance.new.self in
    omega (
      arith,
      ap Rattle.std.specs.Prelude.vec_len c.advance.ensures.seen,
      (enter_room (g.A.Arcs.leads c.args.arcs.now) (g.A.Arcs.turn c.args.arcs.now) (component_places c.loop-self.self) (path_state t) c.advance.ensures.going
          c.in-Some.place E.0 E.1).0,
    )

pub enter-requires-clause-groups : goal.enter-requires-clause-groups
enter-requires-clause-groups g c = let E = c.in-Some.ensures.found in let t = c.advance.new.self in
    omega (
      arith,
      ap Rattle.std.specs.Prelude.vec_len c.advance.ensures.seen,
      (enter_room (g.A.Arcs.leads c.args.arcs.now) (g.A.Arcs.turn c.args.arcs.now) (component_places c.loop-self.self) (path_state t) c.advance.ensures.going
          c.in-Some.place E.0 E.1).1,
    )

pub enter-requires-clause-depth : goal.enter-requires-clause-depth
enter-requires-clause-depth g c = let E = c.in-Some.ensures.found in let t = c.advance.new.self in
    omega (
      arith,
      ap Rattle.std.specs.Prelude.vec_len c.advance.ensures.seen,
      (enter_room (g.A.Arcs.leads c.args.arcs.now) (g.A.Arcs.turn c.args.arcs.now) (component_places c.loop-self.self) (path_state t) c.advance.ensures.going
          c.in-Some.place E.0 E.1).2,
    )

pub loop-self-smaller-in-Some : goal.loop-self-smaller-in-Some
loop-self-smaller-in-Some g c =
    let E = c.in-Some.ensures.found in
    let n = component_places c.args.self.now in
    omega (
      arith,
      c.advance.ensures.depth,
      ap (λ v. Rattle.residue_theory.specs.Sums.size_on (members_of v.items) n) c.advance.ensures.seen,
      entered-smaller n (path_state c.advance.new.self) (path_state c.enter.new.self) c.in-Some.place
          c.enter.ensures.entered (omega (arith, E.0, c.loop-self.invariant.same_places)) E.1
          (ap (λ v. v.depth) c.enter.ensures.entered.kept),
    )

pub loop-self-preserved-in-Some : goal.loop-self-preserved-in-Some
loop-self-preserved-in-Some g c =
    let E = c.in-Some.ensures.found in
    let I = c.loop-self.invariant in
    let n = component_places c.args.self.now in
    let t = c.advance.new.self in
    let same : component_places c.advance.new.self ≡ component_places c.loop-self.self = ap Rattle.std.specs.Prelude.vec_len c.advance.ensures.seen in
    record {
      stored = c.enter.ensures.stored;
      same_places = c.enter.ensures.places ∙ (same ∙ I.same_places);
      going = entered-next (g.A.Arcs.leads c.args.arcs.now) (g.A.Arcs.turn c.args.arcs.now) n (path_state t) (path_state c.enter.new.self) c.in-Some.place
          (subst (λ (m : ℕ). IsGoing (g.A.Arcs.leads c.args.arcs.now) (g.A.Arcs.turn c.args.arcs.now) m (path_state t)) I.same_places
          c.advance.ensures.going) (omega (arith, c.advance.ensures.depth, c.loop-self-test.true))
          c.enter.ensures.entered (omega (arith, E.0, I.same_places)) E.1 E.2;
      seen = λ y h. entered-seen (path_state t) (path_state c.enter.new.self) c.in-Some.place y c.enter.ensures.entered
          (ap (λ v. members_of v.items y) c.advance.ensures.seen ∙ I.seen y h);
    }
