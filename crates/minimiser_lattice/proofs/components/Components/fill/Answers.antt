use Rattle.std.proofs.Common.{◌≡◌, ◌<◌, ℕ, true, inl, inr, sym, subst, ◌∙◌, arith}
use Rattle.residue_theory.proofs.SumLaws.{nat_cases}
use Rattle.exchange_graph.proofs.ItemLaws.{mark_read}
use Rattle.exchange_graph.specs.Marks.{members_of}
use Rattle.minimiser_lattice.specs.Components.{component_places, path_state}
use Rattle.minimiser_lattice.specs.Paths.{IsGoing}
use Rattle.minimiser_lattice.proofs.PathLaws.{enter_room, entered-first, entered-seen, all_done}
use Rattle.minimiser_lattice.proofs.CloseLaws.{quotient}
use Rattle.minimiser_lattice.proofs.components.Components.fill.Goals as goal
use Rattle.minimiser_lattice.proofs.components.Components.fill.Goals.{then-not-index, else-not-index}

pub loop-root-init : goal.loop-root-init
loop-root-init g c = record {
  stored = c.clear.ensures.stored;
  same_places = c.clear.ensures.places;
  going = c.clear.ensures.going (g.A.Arcs.leads c.args.arcs.now) (g.A.Arcs.turn c.args.arcs.now);
  depth = c.clear.ensures.depth;
  seen = λ y l. absurd (omega arith);
}

pub enter-requires-clause-height : goal.enter-requires-clause-height
enter-requires-clause-height g c = let I = c.loop-root.invariant in let s = c.loop-root.self in
    let below : c.loop-root.root < component_places c.args.self.now = omega (arith, c.clear.ensures.places) in
    let fresh = mark_read s.seen.items c.loop-root.root c.index.result.now (omega (arith, I.same_places, below)) c.index.ensures ∙ c.if-not-index.true in
    omega (
      arith,
      I.same_places,
      (enter_room (g.A.Arcs.leads c.args.arcs.now) (g.A.Arcs.turn c.args.arcs.now) (component_places c.args.self.now)
          (path_state s) I.going c.loop-root.root below fresh).0,
    )

pub enter-requires-clause-groups : goal.enter-requires-clause-groups
enter-requires-clause-groups g c = let I = c.loop-root.invariant in let s = c.loop-root.self in
    let below : c.loop-root.root < component_places c.args.self.now = omega (arith, c.clear.ensures.places) in
    let fresh = mark_read s.seen.items c.loop-root.root c.index.result.now (omega (arith, I.same_places, below)) c.index.ensures ∙ c.if-not-index.true in
    omega (
      arith,
      I.same_places,
      (enter_room (g.A.Arcs.leads c.args.arcs.now) (g.A.Arcs.turn c.args.arcs.now) (component_places c.args.self.now)
          (path_state s) I.going c.loop-root.root below fresh).1,
    )

pub explore-requires-clause-going : goal.explore-requires-clause-going
explore-requires-clause-going g c = let I = c.loop-root.invariant in let s = c.loop-root.self in
    let below : c.loop-root.root < component_places c.args.self.now = omega (arith, c.clear.ensures.places) in
    let fresh = mark_read s.seen.items c.loop-root.root c.index.result.now (omega (arith, I.same_places, below)) c.index.ensures ∙ c.if-not-index.true in
    subst (λ (n : ℕ). IsGoing (g.A.Arcs.leads c.args.arcs.now) (g.A.Arcs.turn c.args.arcs.now) n
    (path_state c.enter.new.self)) (sym (c.enter.ensures.places ∙ I.same_places))
    (entered-first (g.A.Arcs.leads c.args.arcs.now) (g.A.Arcs.turn c.args.arcs.now) (component_places c.args.self.now) (path_state s)
    (path_state c.enter.new.self)
    c.loop-root.root I.going I.depth c.enter.ensures.entered below fresh)

pub loop-root-preserved : goal.loop-root-preserved
loop-root-preserved g c =
    let I = c.loop-root.invariant in
    let s = c.loop-root.self in
    let root = c.loop-root.root in
    let below : root < component_places c.args.self.now = omega (arith, c.clear.ensures.places) in
    let read = mark_read s.seen.items root c.index.result.now (omega (arith, I.same_places, below)) c.index.ensures in
    elim c.if-not-index.branch [
      | then-not-index w ↦ rw w.self-is (record {
        stored = w.explore.ensures.stored;
        same_places = w.explore.ensures.places ∙ (w.enter.ensures.places ∙ I.same_places);
        going = subst (λ (n : ℕ). IsGoing (g.A.Arcs.leads c.args.arcs.now) (g.A.Arcs.turn c.args.arcs.now) n (path_state w.explore.new.self))
            (w.enter.ensures.places ∙ I.same_places) w.explore.ensures.going;
        depth = w.explore.ensures.depth;
        seen = λ y l. w.explore.ensures.seen y (elim (nat_cases y root) [
          | inl q ↦ subst (λ v. members_of w.enter.new.self.seen.items v ≡ true) (sym q) w.enter.ensures.entered.seen
          | inr ne ↦ entered-seen (path_state s) (path_state w.enter.new.self) root y w.enter.ensures.entered (I.seen y (omega arith))
        ]);
      })
      | else-not-index w ↦ rw w.self-is (record {
        stored = I.stored;
        same_places = I.same_places;
        going = I.going;
        depth = I.depth;
        seen = λ y l. elim (nat_cases y root) [
          | inl q ↦ subst (λ v. members_of s.seen.items v ≡ true) (sym q) (read ∙ w.if-not-index.false)
          | inr ne ↦ I.seen y (omega arith)
        ];
      })
    ]

pub returns-clause-quotient : goal.returns-clause-quotient
returns-clause-quotient g c =
    let I = c.loop-root.invariant in
    quotient (g.A.Arcs.leads c.args.arcs.now) (g.A.Arcs.turn c.args.arcs.now) (component_places c.args.self.now) (path_state c.loop-root.self) I.going
    (λ y l. all_done (g.A.Arcs.leads c.args.arcs.now) (g.A.Arcs.turn c.args.arcs.now) (component_places c.args.self.now) (path_state c.loop-root.self) I.going
    I.depth y l (I.seen y (omega (arith, c.clear.ensures.places))))
