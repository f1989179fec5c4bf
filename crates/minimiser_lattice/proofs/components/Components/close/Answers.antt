use Rattle.std.proofs.Common.{◌≡◌, ◌-◌, ◌<◌, ◌≤◌, ◌⊎◌, inl, inr, ℕ, true, get_or, ap, sym, subst, ◌∙◌, arith}
use Rattle.residue_theory.proofs.SumLaws.{nat_cases}
use Rattle.exchange_graph.specs.Marks.{members_of}
use Rattle.bit_table.specs.Bits.{bit_in}
use Rattle.minimiser_lattice.specs.Components.{component_places, path_state, component_number}
use Rattle.minimiser_lattice.specs.Paths.{Closes, IsNumbered, IsClosing, IsToldOf}
use Rattle.minimiser_lattice.specs.declared.components.Components.{Components}
use Rattle.bit_table.proofs.BitLaws.{item_is}
use Rattle.minimiser_lattice.proofs.PathLaws.{going_fits, last_below}
use Rattle.minimiser_lattice.proofs.CloseLaws.{closes-start, closes-end}
use Rattle.minimiser_lattice.proofs.components.Components.close.Goals as goal

pub index-from-requires : goal.index-from-requires
index-from-requires g c = let F =
    going_fits (g.A.Arcs.leads c.args.arcs.now) (g.A.Arcs.turn c.args.arcs.now) (component_places c.args.self.now) (path_state c.args.self.now) c.requires.going
    in omega (arith, F.0, F.2, c.requires.stored.path, c.requires.some)

pub number_group-requires-clause-from : goal.number_group-requires-clause-from
number_group-requires-clause-from g c =
    let s = c.args.self.now in
    let F = going_fits (g.A.Arcs.leads c.args.arcs.now) (g.A.Arcs.turn c.args.arcs.now) (component_places s) (path_state s) c.requires.going in
    omega (
      arith,
      (last_below (g.A.Arcs.leads c.args.arcs.now) (g.A.Arcs.turn c.args.arcs.now) (component_places s) (path_state s) c.requires.going c.requires.some).0,
      item_is s.path.items (s.depth - 1) c.index-from.result.now (omega (arith, F.0, F.2, c.requires.stored.path, c.requires.some)) c.index-from.ensures,
    )

pub number_group-requires-clause-fits : goal.number_group-requires-clause-fits
number_group-requires-clause-fits g c =
    (going_fits (g.A.Arcs.leads c.args.arcs.now) (g.A.Arcs.turn c.args.arcs.now) (component_places c.args.self.now)
    (path_state c.args.self.now) c.requires.going).0

pub number_group-requires-clause-below : goal.number_group-requires-clause-below
number_group-requires-clause-below g c = c.requires.going.stack_below

pub loop-position-init : goal.loop-position-init
loop-position-init g c =
    let s = c.args.self.now in
    let t = c.number_group.new.self in
    let F = going_fits (g.A.Arcs.leads c.args.arcs.now) (g.A.Arcs.turn c.args.arcs.now) (component_places s) (path_state s) c.requires.going in
    let is =
    item_is s.path.items (s.depth - 1) c.index-from.result.now
    (omega (arith, F.0, F.2, c.requires.stored.path, c.requires.some)) c.index-from.ensures in
    let C : IsClosing (g.A.Arcs.leads c.args.arcs.now) (component_places s) (members_of t.done.items) (component_number t) s.count (bit_in s.strict) =
    closes-start (g.A.Arcs.leads c.args.arcs.now) (g.A.Arcs.turn c.args.arcs.now) (component_places s) (path_state s) c.index-from.result.now c.requires.going
    c.requires.some c.requires.finished c.requires.begins is (members_of t.done.items) (component_number t)
    c.number_group.ensures.numbered in
    record {
      stored = c.number_group.ensures.stored;
      kept = c.number_group.ensures.kept
          ∙ ap (λ w. record s { done = t.done; number = t.number; strict = w })
          (sym (ap (λ (v : Components). v.strict) c.number_group.ensures.kept));
      numbered = c.number_group.ensures.numbered;
      closing =
          subst (λ (v : Components). IsClosing (g.A.Arcs.leads c.args.arcs.now) (component_places s) (members_of t.done.items)
          (component_number t) v.count (bit_in v.strict)) (sym c.number_group.ensures.kept) C;
      told = λ p y a l. absurd (omega arith);
    }

pub index-place-requires : goal.index-place-requires
index-place-requires g c =
    let I = c.loop-position.invariant in
    let F = going_fits (g.A.Arcs.leads c.args.arcs.now) (g.A.Arcs.turn c.args.arcs.now) (component_places c.args.self.now) (path_state c.args.self.now)
    c.requires.going in
    omega (arith, F.0, I.stored.stack, ap component_places I.kept, ap (λ (v : Components). v.height) c.number_group.ensures.kept)

pub absorb-requires-clause-closing : goal.absorb-requires-clause-closing
absorb-requires-clause-closing g c =
    subst (λ (n : ℕ). Closes (g.A.Arcs.leads c.args.arcs.now) n (path_state c.loop-position.self))
    (sym (ap component_places c.loop-position.invariant.kept)) c.loop-position.invariant.closing

pub absorb-requires-clause-place : goal.absorb-requires-clause-place
absorb-requires-clause-place g c =
    let I = c.loop-position.invariant in
    let s = c.loop-position.self in
    let F = going_fits (g.A.Arcs.leads c.args.arcs.now) (g.A.Arcs.turn c.args.arcs.now) (component_places c.args.self.now) (path_state c.args.self.now)
    c.requires.going in
    let less : c.loop-position.position < c.args.self.now.height = omega (arith, ap (λ (v : Components). v.height) c.number_group.ensures.kept) in
    omega (
      arith,
      ap component_places I.kept,
      item_is s.stack.items c.loop-position.position c.index-place.result.now
          (omega (arith, F.0, I.stored.stack, ap component_places I.kept, less)) c.index-place.ensures,
      ap (λ (v : Components). get_or v.stack.items c.loop-position.position 0) I.kept,
      c.requires.going.stack_below c.loop-position.position less,
    )

pub absorb-requires-clause-done : goal.absorb-requires-clause-done
absorb-requires-clause-done g c =
    let I = c.loop-position.invariant in
    let s = c.loop-position.self in
    let F = going_fits (g.A.Arcs.leads c.args.arcs.now) (g.A.Arcs.turn c.args.arcs.now) (component_places c.args.self.now) (path_state c.args.self.now)
    c.requires.going in
    let less : c.loop-position.position < c.args.self.now.height = omega (arith, ap (λ (v : Components). v.height) c.number_group.ensures.kept) in
    let is =
    item_is s.stack.items c.loop-position.position c.index-place.result.now
    (omega (arith, F.0, I.stored.stack, ap component_places I.kept, less)) c.index-place.ensures in
    subst (λ (v : ℕ). members_of s.done.items v ≡ true) (sym (ap (λ (v : Components). get_or v.stack.items c.loop-position.position 0) I.kept) ∙ is)
    (I.numbered.done_here c.loop-position.position c.loop-position.auto.position less)

pub absorb-requires-clause-number : goal.absorb-requires-clause-number
absorb-requires-clause-number g c =
    let I = c.loop-position.invariant in
    let s = c.loop-position.self in
    let F = going_fits (g.A.Arcs.leads c.args.arcs.now) (g.A.Arcs.turn c.args.arcs.now) (component_places c.args.self.now) (path_state c.args.self.now)
    c.requires.going in
    let less : c.loop-position.position < c.args.self.now.height = omega (arith, ap (λ (v : Components). v.height) c.number_group.ensures.kept) in
    let is =
    item_is s.stack.items c.loop-position.position c.index-place.result.now
    (omega (arith, F.0, I.stored.stack, ap component_places I.kept, less)) c.index-place.ensures in
    subst (λ (v : ℕ). component_number s v ≡ s.count) (sym (ap (λ (v : Components). get_or v.stack.items c.loop-position.position 0) I.kept) ∙ is)
    (I.numbered.number_here c.loop-position.position c.loop-position.auto.position less ∙ sym (ap (λ (v : Components). v.count) I.kept))

pub loop-position-preserved : goal.loop-position-preserved
loop-position-preserved g c =
    let I = c.loop-position.invariant in
    let s = c.loop-position.self in
    let t = c.absorb.new.self in
    let E = c.absorb.ensures in
    let n = component_places c.args.self.now in
    let same : component_places s ≡ n = ap component_places I.kept in
    let F = going_fits (g.A.Arcs.leads c.args.arcs.now) (g.A.Arcs.turn c.args.arcs.now) n (path_state c.args.self.now) c.requires.going in
    let less : c.loop-position.position < c.args.self.now.height = omega (arith, ap (λ (v : Components). v.height) c.number_group.ensures.kept) in
    let is = item_is s.stack.items c.loop-position.position c.index-place.result.now (omega (arith, F.0, I.stored.stack, same, less)) c.index-place.ensures in
    let stack : (p : ℕ) → get_or t.stack.items p 0 ≡ get_or s.stack.items p 0 = λ p. ap (λ (v : Components). get_or v.stack.items p 0) E.kept in
    let spot : (p : ℕ) → p < c.args.self.now.height →
    get_or s.stack.items p 0 < n =
    λ p l. omega
    (arith, ap (λ (v : Components). get_or v.stack.items p 0) I.kept, c.requires.going.stack_below p l) in
    let done : (p : ℕ) → c.index-from.result.now ≤ p → p < c.args.self.now.height → members_of s.done.items (get_or s.stack.items p 0) ≡ true =
    λ p a l. subst (λ (v : ℕ). members_of s.done.items v ≡ true)
    (sym (ap (λ (v : Components). get_or v.stack.items p 0) I.kept)) (I.numbered.done_here p a l) in
    let still : (p y : ℕ) → c.index-from.result.now ≤ p → p < c.args.self.now.height → y < n →
    g.A.Arcs.leads c.args.arcs.now (get_or s.stack.items p 0) y ≡ true → IsToldOf (path_state s) y →
    IsToldOf (path_state t) y =
    λ p y a l yl b h. subst (λ (v : Components). (component_number v y ≡ v.count) ⊎ (bit_in t.strict v.count (component_number v y) ≡ true)) (sym E.kept)
    (elim h [
      | inl e ↦ inl e
      | inr e ↦ inr
          (E.row (component_number s y)
          (omega (
            arith,
            same,
            I.closing.small,
            I.closing.within y yl (I.closing.stays (get_or s.stack.items p 0) y (spot p l) yl (done p a l) b),
          )) e)
    ]) in
    record {
      stored = E.stored;
      kept = E.kept
          ∙ (ap (λ (v : Components). record v { strict = t.strict }) I.kept
          ∙ ap (λ (v : Components). record c.args.self.now { done = v.done; number = v.number; strict = t.strict })
          (sym E.kept));
      numbered =
          subst (λ (v : Components). IsNumbered (path_state c.args.self.now) (members_of v.done.items) (component_number v)
          c.index-from.result.now) (sym E.kept) I.numbered;
      closing = subst (λ (m : ℕ). Closes (g.A.Arcs.leads c.args.arcs.now) m (path_state t)) same E.closing;
      told = λ p y a l yl b. elim (nat_cases p c.loop-position.position) [
        | inl q ↦ E.told y (omega (arith, same))
            (subst (λ (v : ℕ). g.A.Arcs.leads c.args.arcs.now v y ≡ true)
            (stack p ∙ (ap (λ i. get_or s.stack.items i 0) q ∙ is)) b)
        | inr ne ↦
            let before : p < c.loop-position.position = omega arith in
            let b2 : g.A.Arcs.leads c.args.arcs.now (get_or s.stack.items p 0) y ≡ true =
            subst (λ (v : ℕ). g.A.Arcs.leads c.args.arcs.now v y ≡ true) (stack p) b in
            still p y a (omega arith) yl b2 (I.told p y a before yl b2)
      ];
    }

pub returns-clause-going : goal.returns-clause-going
returns-clause-going g c =
    let s = c.args.self.now in
    let I = c.loop-position.invariant in
    let F = going_fits (g.A.Arcs.leads c.args.arcs.now) (g.A.Arcs.turn c.args.arcs.now) (component_places s) (path_state s) c.requires.going in
    let is =
    item_is s.path.items (s.depth - 1) c.index-from.result.now
    (omega (arith, F.0, F.2, c.requires.stored.path, c.requires.some)) c.index-from.ensures in
    closes-end (g.A.Arcs.leads c.args.arcs.now) (g.A.Arcs.turn c.args.arcs.now) (component_places s) (path_state s) c.index-from.result.now c.requires.going
    c.requires.some c.requires.finished c.requires.begins is
    (path_state c.loop-position.self) I.numbered (ap path_state I.kept) I.closing
    (λ p y a l. I.told p y a
    (omega (
      arith,
      ap (λ (v : Components). v.height) c.number_group.ensures.kept,
      ap (λ (v : Components). v.height) I.kept,
    )))
