use Rattle.std.proofs.Common.{◌≡◌, ◌+◌, ◌<◌, ◌≤◌, ◌∙◌, inr, ap, refl, subst, sym, arith}
use Rattle.std.specs.Prelude.{IfNone, IfSome, IsNone, ◌↔◌}
use Rattle.residue_theory.specs.Sets.{IsWithin}
use Rattle.closed_sets.proofs.SetLaws.{size_on-bound}
use Rattle.closed_sets.specs.Closed.{IsReachedSet, NoEndReached}
use Rattle.residue_theory.specs.Sums.{size_on}
use Rattle.exchange_graph.specs.Marks.{members_of}
use Rattle.exchange_graph.specs.Results.{vain_of, step_of}
use Rattle.mixed_augmentation_laws.specs.Moves.{IsFreeRow}
use Rattle.mixed_matrices.specs.Arcs.{leads_to}
use Rattle.mixed_matrices.specs.LayeredMatrices.{LayeredMatrix}
use Rattle.exchange_graph.specs.Sweeps.{IsShortestFromOne}
use Rattle.independent_matching.specs.Engines.{HasGrown, HasStayed, Standing}
use Rattle.independent_matching.specs.Sides.{in_q, layers_of, number, tableau_of_pair}
use Rattle.independent_matching.proofs.EngineLaws.{solved}
use Rattle.independent_matching.proofs.MarkLaws.{left-mark}
use Rattle.independent_matching.proofs.ReadyLaws.{ready-more, ready-order, ready-stayed}
use Rattle.independent_matching.proofs.RunLaws.{looks-bound, size-bound}
use Rattle.independent_matching.proofs.SearchLaws.{given-left, left-given, no_walk-told, reached-told, search-route, some-read, walk-end}
use Rattle.independent_matching.proofs.engine.Engine.improve_along.Goals as goal

pub augment-requires-clause-route : goal.augment-requires-clause-route
augment-requires-clause-route g c =
    let p = g.F.Field.modulus in
    let S = g.T.Tableau.state c.self.inside.mover.pair.tableau in
    let M = c.self.inside.mover.pair.mates in
    let ready = c.self.invariant in
    let resting = c.self.inside.resting in
    let marks = c.self.inside.mover.marks in
    let at = step_of c.shortest_in_turn-walk.new.self in
    let arc = leads_to p (layers_of S M) (tableau_of_pair S M) in
    search-route p S M ready.width resting marks ready.marks c.self.inside.search.places ready.search ready.pair at c.in-Some.last c.step-x.result
    (subst (λ free. IsShortestFromOne arc c.self.inside.search.places (members_of free) (members_of marks.ends.items) at c.in-Some.last) c.deref.ensures.value
    (subst (λ ends. IsShortestFromOne arc c.self.inside.search.places (members_of c.deref.result.now)
    (members_of ends) at c.in-Some.last) c.deref-2.ensures.value
    (subst (λ o. IfSome o (λ k. IsShortestFromOne arc c.self.inside.search.places (members_of c.deref.result.now)
    (members_of c.deref-2.result.now) at k)) c.in-Some.is c.shortest_in_turn-walk.ensures.answer.found)))
    c.step-x.ensures c.unwrap-end.result
    (some-read c.free_row.result c.unwrap-end.result
    (λ row. IsFreeRow p (layers_of S M) (tableau_of_pair S M) c.step-x.result (in_q row)
    (number row)) c.unwrap-end.ensures c.free_row.ensures.free)

pub unwrap-end-requires : goal.unwrap-end-requires
unwrap-end-requires g c =
    let p = g.F.Field.modulus in
    let S = g.T.Tableau.state c.self.inside.mover.pair.tableau in
    let M = c.self.inside.mover.pair.mates in
    let ready = c.self.invariant in
    let resting = c.self.inside.resting in
    let marks = c.self.inside.mover.marks in
    let at = step_of c.shortest_in_turn-walk.new.self in
    let arc = leads_to p (layers_of S M) (tableau_of_pair S M) in
    c.free_row.ensures.end ∙
    walk-end p S M ready.width resting marks ready.marks c.self.inside.search.places ready.search at c.in-Some.last c.step-x.result
    (subst (λ free. IsShortestFromOne arc c.self.inside.search.places (members_of free) (members_of marks.ends.items) at c.in-Some.last) c.deref.ensures.value
    (subst (λ ends. IsShortestFromOne arc c.self.inside.search.places (members_of c.deref.result.now)
    (members_of ends) at c.in-Some.last) c.deref-2.ensures.value
    (subst (λ o. IfSome o (λ k. IsShortestFromOne arc c.self.inside.search.places (members_of c.deref.result.now)
    (members_of c.deref-2.result.now) at k)) c.in-Some.is c.shortest_in_turn-walk.ensures.answer.found)))
    c.step-x.ensures

pub close-requires-clause-by_t : goal.close-requires-clause-by_t
close-requires-clause-by_t g c =
    let S = g.T.Tableau.state c.self.inside.mover.pair.tableau in
    let M = c.self.inside.mover.pair.mates in
    let S' = g.T.Tableau.state c.augment.new.self.pair.tableau in
    let M' = c.augment.new.self.pair.mates in
    λ x l apart. left-mark S S' M M' c.augment.ensures.gained.layers c.unwrap-end.result c.augment.ensures.gained.rows c.self.inside.resting.by_t.items x
    (c.self.invariant.marks.by_t x (subst (λ n. x < n) (ap (λ (L : LayeredMatrix). L.columns) c.augment.ensures.gained.layers) l)) apart

pub close-requires-clause-free : goal.close-requires-clause-free
close-requires-clause-free g c =
    let S = g.T.Tableau.state c.self.inside.mover.pair.tableau in
    let S' = g.T.Tableau.state c.augment.new.self.pair.tableau in
    λ x l ne.
    let here : x < S.columns = subst (λ n. x < n) (ap (λ (L : LayeredMatrix). L.columns) c.augment.ensures.gained.layers) l in
    c.self.invariant.marks.free x here ∙ sym (c.augment.ensures.gained.taken.others x here (λ e. ne (e ∙ sym c.step-first.ensures)))

pub shortest_in_turn-walk-requires-clause-left : goal.shortest_in_turn-walk-requires-clause-left
shortest_in_turn-walk-requires-clause-left g c =
    let e = c.self.inside in
    let ready = c.self.invariant in
    given-left g.F.Field.modulus (g.T.Tableau.state e.mover.pair.tableau) e.mover.pair.mates ready.width e.resting
    e.mover.marks ready.marks e.search.places ready.search (vain_of e.search) e.search.next c.deref.result.now
    c.deref-2.result.now c.deref.ensures.value c.deref-2.ensures.value ready.left

pub overflow_add-self : goal.overflow_add-self
overflow_add-self g c =
    let p = g.F.Field.modulus in
    let e = c.self.inside in
    let S = g.T.Tableau.state e.mover.pair.tableau in
    let ready = c.self.invariant in
    let narrow : S.columns ≤ 8192 = c.is_tableau.ensures.narrow in
    let size : e.size ≤ 8192 = omega (arith, ready.count, size-bound p S e.mover.pair.mates ready.pair, narrow) in
    omega (
      arith,
      looks-bound e.size S.columns (size_on (vain_of e.search) S.columns) e.looks ready.few_looks
          (size_on-bound (vain_of e.search) S.columns) size narrow,
      c.looks.ensures,
      c.shortest_in_turn-walk.ensures.counted.few,
      ready.search,
      narrow,
    )

pub overflow_add-self-in-Some : goal.overflow_add-self-in-Some
overflow_add-self-in-Some g c =
    let S = g.T.Tableau.state c.self.inside.mover.pair.tableau in
    let M = c.self.inside.mover.pair.mates in
    let small : c.self.inside.size ≤ 8192 =
    omega (arith, c.self.invariant.count, size-bound g.F.Field.modulus S M c.self.invariant.pair, c.augment.ensures.narrow) in
    omega (arith, small)

pub returns-in-None-clause-best : goal.returns-in-None-clause-best
returns-in-None-clause-best g c = λ _.
    let p = g.F.Field.modulus in
    let e = c.self.inside in
    let S = g.T.Tableau.state e.mover.pair.tableau in
    let M = e.mover.pair.mates in
    let ready = c.self.invariant in
    let resting = e.resting in
    let marks = e.mover.marks in
    let arc = leads_to p (layers_of S M) (tableau_of_pair S M) in
    let search = c.shortest_in_turn-walk.new.self in
    let n = e.search.places in
    let E = c.shortest_in_turn-walk.ensures in
    let starts = members_of c.deref.result.now in
    let stops = members_of c.deref-2.result.now in
    let none = subst (λ o. IsNone o ↔ NoEndReached arc n starts stops) c.in-None.is E.none in
    let reached = subst (λ o. IfNone o (IsReachedSet arc n starts (vain_of search))) c.in-None.is E.answer.reached in
    let vain = subst (λ o. IfNone o (size_on (vain_of search) n ≡ size_on (vain_of e.search) n + search.looks))
    c.in-None.is E.left.size in
    let now : Standing g.row.T.Denot = record {
      tableau = e.mover.pair.tableau;
      matching = M;
      found = search;
      pivots = e.mover.pivots;
      looks = e.looks + c.looks.result;
      searches = e.searches;
    } in
    subst (λ s. HasStayed g.row.T.Denot g.T.Tableau.state p s now c.args.steps.now c.shortest_in_turn-walk.new.steps) c.self.view_is
    (record {
      solved = solved p g.met.F.Field.prime S M ready.pair
          (no_walk-told p S M ready.width resting marks ready.marks n ready.search
          (subst (λ free. NoEndReached arc n (members_of free) (members_of marks.ends.items)) c.deref.ensures.value
          (subst (λ ends. NoEndReached arc n starts (members_of ends)) c.deref-2.ensures.value (none.0 refl))))
          (vain_of search)
          (reached-told p S M ready.width resting marks ready.marks n ready.search (vain_of search)
          (subst (λ free. IsReachedSet arc n (members_of free) (vain_of search)) c.deref.ensures.value reached));
      tableau = refl;
      matching = refl;
      pivots = refl;
      kept = subst (λ m. IsWithin m (vain_of e.search) (vain_of search)) ready.search E.left.grown;
      told = omega (arith, E.counted.told, c.looks.ensures);
      looks = subst (λ m. e.looks + c.looks.result + size_on (vain_of e.search) m ≡ e.looks + size_on (vain_of search) m)
          ready.search (omega (arith, vain, c.looks.ensures));
      looked = omega (arith, c.looks.ensures);
      all_looks = E.counted.all_looks;
    })

pub returns-in-Some-clause-grown : goal.returns-in-Some-clause-grown
returns-in-Some-clause-grown g c = λ _.
    let e = c.self.inside in
    let search = c.shortest_in_turn-walk.new.self in
    let E = c.shortest_in_turn-walk.ensures in
    let A = c.augment.ensures in
    let moved = c.augment.new.self in
    let now : Standing g.row.T.Denot = record {
      tableau = moved.pair.tableau;
      matching = moved.pair.mates;
      found = search;
      pivots = moved.pivots;
      looks = e.looks + c.looks.result;
      searches = e.searches;
    } in
    subst (λ s. HasGrown g.row.T.Denot g.T.Tableau.state g.T.Tableau.pivots s now c.args.steps.now c.augment.new.steps) c.self.view_is
    (record {
      size = A.gained.size;
      kept = subst (λ m. IsWithin m (vain_of e.search) (vain_of search)) c.self.invariant.search E.left.grown;
      told = omega (arith, E.counted.told, A.pivots.told, c.looks.ensures);
      few_pivots = omega (arith, A.pivots.told, A.pivots.few);
      made = A.pivots.all;
      few_looks = omega (arith, c.looks.ensures, E.counted.few, c.self.invariant.search);
      searched = inr (E.counted.all_looks, ap (λ k. e.looks + k) c.looks.ensures);
    })

pub augment-requires-clause-order : goal.augment-requires-clause-order
augment-requires-clause-order g c =
    let e = c.self.inside in
    ready-order g.F.Field.modulus (g.T.Tableau.state e.mover.pair.tableau) e.mover.pair.mates e.search e.resting
    e.mover.marks e.size e.mover.pivots e.looks c.self.invariant

pub invariant_of-self : goal.invariant_of-self
invariant_of-self g c =
    let p = g.F.Field.modulus in
    let e = c.self.inside in
    let S = g.T.Tableau.state e.mover.pair.tableau in
    let M = e.mover.pair.mates in
    let ready = c.self.invariant in
    let search = c.shortest_in_turn-walk.new.self in
    let E = c.shortest_in_turn-walk.ensures in
    let vain = subst (λ o. IfNone o (size_on (vain_of search) e.search.places
    ≡ size_on (vain_of e.search) e.search.places + search.looks)) c.in-None.is E.left.size in
    let left = left-given p S M ready.width e.resting e.mover.marks ready.marks e.search.places ready.search
    (vain_of search) search.next c.deref.result.now c.deref-2.result.now c.deref.ensures.value c.deref-2.ensures.value
    E.left.left in
    ready-stayed p S M e.search e.resting e.mover.marks e.size e.mover.pivots e.looks ready search E.places left
    (subst (λ m. IsWithin m (vain_of e.search) (vain_of search)) ready.search E.left.grown) c.looks.result
    (e.looks + c.looks.result)
    (subst (λ m. size_on (vain_of search) m ≡ size_on (vain_of e.search) m + c.looks.result) ready.search
    (omega (arith, vain, c.looks.ensures))) refl

pub invariant_of-self-in-Some : goal.invariant_of-self-in-Some
invariant_of-self-in-Some g c =
    let p = g.F.Field.modulus in
    let e = c.self.inside in
    let state = g.T.Tableau.state in
    let S = state e.mover.pair.tableau in
    let M = e.mover.pair.mates in
    let ready = c.self.invariant in
    let search = c.shortest_in_turn-walk.new.self in
    let E = c.shortest_in_turn-walk.ensures in
    let left = left-given p S M ready.width e.resting e.mover.marks ready.marks e.search.places ready.search
    (vain_of search) search.next c.deref.result.now c.deref-2.result.now c.deref.ensures.value c.deref-2.ensures.value
    E.left.left in
    let now = c.augment.new.self in
    let few : c.looks.result ≤ S.columns = omega (arith, c.looks.ensures, E.counted.few, ready.search) in
    ready-more p S M e.search e.resting e.mover.marks e.size e.mover.pivots e.looks ready search E.places left
    (subst (λ m. IsWithin m (vain_of e.search) (vain_of search)) ready.search E.left.grown)
    (state now.pair.tableau) now.pair.mates _ c.unwrap-end.result c.augment.ensures.gained
    e.resting now.marks now.pivots c.augment.ensures.order c.close.new.resting c.close.new.self c.close.ensures
    c.looks.result (e.looks + c.looks.result) few refl
