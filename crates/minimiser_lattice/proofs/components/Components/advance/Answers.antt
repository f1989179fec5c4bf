use Rattle.std.proofs.Common.{◌-◌, ◌<◌, ℕ, length, set, get_or, ap, refl, sym, subst, ◌∙◌, arith}
use Rattle.std.proofs.lemmas.List.{get_or-set_same, get_or-set_other}
use Rattle.bit_table.proofs.BitLaws.{item_is}
use Rattle.exchange_graph.proofs.ItemLaws.{mark_read}
use Rattle.exchange_graph.specs.Turns.{HasNextTurn}
use Rattle.minimiser_lattice.specs.Components.{component_places, path_state}
use Rattle.minimiser_lattice.specs.Paths.{AreMergedGroups, PathState}
use Rattle.minimiser_lattice.specs.declared.components.Components.{Components}
use Rattle.minimiser_lattice.proofs.PathLaws.{IsAdvancing, going_fits, last_below, advancing-first, advancing-done, advancing-merge, advancing-stop}
use Rattle.minimiser_lattice.proofs.components.Components.advance.Goals as goal

pub index-requires : goal.index-requires
index-requires g c =
    let s = c.args.self.now in
    let F = going_fits (g.A.Arcs.leads c.args.arcs.now) (g.A.Arcs.turn c.args.arcs.now) (component_places s) (path_state s)
    c.requires.going in
    omega (arith, F.0, F.2, c.requires.stored.path, c.requires.some)

pub index-place-requires : goal.index-place-requires
index-place-requires g c =
    let s = c.args.self.now in
    let arc = g.A.Arcs.leads c.args.arcs.now in
    let turn = g.A.Arcs.turn c.args.arcs.now in
    let F = going_fits arc turn (component_places s) (path_state s) c.requires.going in
    let B = last_below arc turn (component_places s) (path_state s) c.requires.going c.requires.some in
    omega (
      arith,
      F.0,
      F.2,
      B.0,
      c.requires.stored.stack,
      item_is s.path.items (s.depth - 1) c.index.result.now
          (omega (arith, F.0, F.2, c.requires.stored.path, c.requires.some)) c.index.ensures,
    )

pub index-from-requires : goal.index-from-requires
index-from-requires g c =
    let s = c.args.self.now in
    let arc = g.A.Arcs.leads c.args.arcs.now in
    let turn = g.A.Arcs.turn c.args.arcs.now in
    let F = going_fits arc turn (component_places s) (path_state s) c.requires.going in
    let B = last_below arc turn (component_places s) (path_state s) c.requires.going c.requires.some in
    let p = item_is s.path.items (s.depth - 1) c.index.result.now
    (omega (arith, F.0, F.2, c.requires.stored.path, c.requires.some)) c.index.ensures in
    let e = item_is s.stack.items c.index.result.now c.index-place.result.now
    (omega (arith, F.0, B.0, p, c.requires.stored.stack)) c.index-place.ensures in
    omega (arith, B.1, ap (λ i. get_or s.stack.items i 0) p, e, c.requires.stored.next)

pub loop-to-init : goal.loop-to-init
loop-to-init g c =
    let s = c.args.self.now in
    let arc = g.A.Arcs.leads c.args.arcs.now in
    let turn = g.A.Arcs.turn c.args.arcs.now in
    let F = going_fits arc turn (component_places s) (path_state s) c.requires.going in
    let B = last_below arc turn (component_places s) (path_state s) c.requires.going c.requires.some in
    let p = item_is s.path.items (s.depth - 1) c.index.result.now
    (omega (arith, F.0, F.2, c.requires.stored.path, c.requires.some)) c.index.ensures in
    let e = item_is s.stack.items c.index.result.now c.index-place.result.now
    (omega (arith, F.0, B.0, p, c.requires.stored.stack)) c.index-place.ensures in
    let last = ap (λ i. get_or s.stack.items i 0) p ∙ e in
    record {
      stored = c.requires.stored;
      seen = refl;
      depth = refl;
      fits = c.type_inv.from.fits;
      advancing = advancing-first arc turn (component_places s) (path_state s) c.index-place.result.now c.index-from.result.now
          c.requires.going c.requires.some last
          (item_is s.next.items c.index-place.result.now c.index-from.result.now
          (omega (arith, B.1, last, c.requires.stored.next)) c.index-from.ensures);
    }

pub returns-then-not-index-clause-going : goal.returns-then-not-index-clause-going
returns-then-not-index-clause-going g c =
    let I = c.loop-to.invariant in
    let A = I.advancing in
    let arc = g.A.Arcs.leads c.args.arcs.now in
    let turn = g.A.Arcs.turn c.args.arcs.now in
    let n = component_places c.args.self.now in
    let s = c.loop-to.self in
    let place = c.index-place.result.now in
    let from = c.loop-to.from in
    let below = (last_below arc turn n (path_state s) A.going A.some).1 in
    let fits : place < length s.next.items =
    omega (arith, I.stored.next, ap Rattle.std.specs.Prelude.vec_len I.seen, A.last, below) in
    advancing-stop arc turn n (path_state s) place from (λ y. get_or (set s.next.items place from) y 0) A
    (get_or-set_same s.next.items place from 0 fits) (λ y ne. get_or-set_other s.next.items place y from 0 ne)

pub merge-requires-clause-fits : goal.merge-requires-clause-fits
merge-requires-clause-fits g c =
    let I = c.loop-to.invariant in
    let F = going_fits (g.A.Arcs.leads c.args.arcs.now) (g.A.Arcs.turn c.args.arcs.now) (component_places c.args.self.now)
    (path_state c.loop-to.self) I.advancing.going in
    omega (arith, F.0, F.1, ap Rattle.std.specs.Prelude.vec_len I.seen)

pub loop-to-preserved-then-not-index-2 : goal.loop-to-preserved-then-not-index-2
loop-to-preserved-then-not-index-2 g c =
    let I = c.loop-to.invariant in
    let arc = g.A.Arcs.leads c.args.arcs.now in
    let turn = g.A.Arcs.turn c.args.arcs.now in
    let n = component_places c.args.self.now in
    let s = c.loop-to.self in
    let place = c.index-place.result.now in
    let to = c.in-Some.to in
    let same = ap Rattle.std.specs.Prelude.vec_len I.seen in
    let N = subst (λ m. HasNextTurn (arc place) (turn place) m c.loop-to.from to c.in-Some.next) c.requires.places
    c.in-Some.ensures.some in
    let seen = mark_read s.seen.items to c.index-in-Some.result.now (omega (arith, N.below, same)) c.index-in-Some.ensures in
    let done = mark_read s.done.items to c.index-in-Some-2.result.now (omega (arith, N.below, same, I.stored.done))
    c.index-in-Some-2.ensures in
    let at = item_is s.position.items to c.index-at.result.now (omega (arith, N.below, same, I.stored.position)) c.index-at.ensures in
    record {
      stored = c.merge.ensures.stored;
      seen = ap (λ (v : Components). v.seen) c.merge.ensures.kept ∙ I.seen;
      depth = ap (λ (v : Components). v.depth) c.merge.ensures.kept ∙ I.depth;
      fits = N.fits;
      advancing = subst (λ (v : PathState). IsAdvancing arc turn n v place c.in-Some.next)
          (sym (ap path_state c.merge.ensures.kept))
          (advancing-merge arc turn n (path_state s) place c.loop-to.from to c.in-Some.next c.merge.new.self.groups
          I.advancing N (seen ∙ c.if-not-index.false) (done ∙ c.if-not-index-2.true)
          (subst (λ (v : ℕ). AreMergedGroups (path_state s) c.merge.new.self.groups v) (sym at) c.merge.ensures.merged));
    }

pub loop-to-preserved : goal.loop-to-preserved
loop-to-preserved g c =
    let I = c.loop-to.invariant in
    let arc = g.A.Arcs.leads c.args.arcs.now in
    let turn = g.A.Arcs.turn c.args.arcs.now in
    let n = component_places c.args.self.now in
    let s = c.loop-to.self in
    let place = c.index-place.result.now in
    let to = c.in-Some.to in
    let N = subst (λ m. HasNextTurn (arc place) (turn place) m c.loop-to.from to c.in-Some.next) c.requires.places
    c.in-Some.ensures.some in
    let done = mark_read s.done.items to c.index-in-Some-2.result.now
    (omega (arith, N.below, ap Rattle.std.specs.Prelude.vec_len I.seen, I.stored.done)) c.index-in-Some-2.ensures in
    record {
      stored = I.stored;
      seen = I.seen;
      depth = I.depth;
      fits = N.fits;
      advancing = advancing-done arc turn n (path_state s) place c.loop-to.from to c.in-Some.next I.advancing N
          (done ∙ c.if-not-index-2.false);
    }

pub returns-clause-going : goal.returns-clause-going
returns-clause-going g c =
    let I = c.loop-to.invariant in
    let A = I.advancing in
    let arc = g.A.Arcs.leads c.args.arcs.now in
    let turn = g.A.Arcs.turn c.args.arcs.now in
    let n = component_places c.args.self.now in
    let s = c.loop-to.self in
    let place = c.index-place.result.now in
    let from = c.loop-to.from in
    let below = (last_below arc turn n (path_state s) A.going A.some).1 in
    let fits : place < length s.next.items =
    omega (arith, I.stored.next, ap Rattle.std.specs.Prelude.vec_len I.seen, A.last, below) in
    advancing-stop arc turn n (path_state s) place from (λ y. get_or (set s.next.items place from) y 0) A
    (get_or-set_same s.next.items place from 0 fits) (λ y ne. get_or-set_other s.next.items place y from 0 ne)
