use Rattle.std.proofs.Common.{◌≡◌, ◌<◌, ◌≤◌, ◌∙◌, true, ap, refl, sym, subst, arith}
use Rattle.mixed_matrices.specs.Arcs.{is_end}
use Rattle.mixed_matrices.specs.LayeredMatrices.{LayeredMatrix}
use Rattle.independent_matching.specs.Sides.{layers_of, tableau_of_pair}
use Rattle.independent_matching.proofs.MarkLaws.{left-mark}
use Rattle.independent_matching.proofs.ReadyLaws.{ready-more, ready-order}
use Rattle.independent_matching.proofs.RunLaws.{size-bound}
use Rattle.independent_matching.proofs.engine.Engine.grow.Goals as goal

pub unwrap-row-requires : goal.unwrap-row-requires
unwrap-row-requires g c = c.free_row.ensures.end ∙
    subst (λ (v : _). is_end g.F.Field.modulus (layers_of (g.T.Tableau.state v.tableau) v.matching)
    (tableau_of_pair (g.T.Tableau.state v.tableau) v.matching) c.args.x ≡ true) (sym c.self.view_is) c.requires.end

pub close-requires-clause-by_t : goal.close-requires-clause-by_t
close-requires-clause-by_t g c =
    let S = g.T.Tableau.state c.self.inside.mover.pair.tableau in
    let M = c.self.inside.mover.pair.mates in
    let S' = g.T.Tableau.state c.give.new.self.pair.tableau in
    let M' = c.give.new.self.pair.mates in
    λ x l apart. left-mark S S' M M' c.give.ensures.gained.layers c.unwrap-row.result c.give.ensures.gained.rows c.self.inside.resting.by_t.items x
    (c.self.invariant.marks.by_t x (subst (λ n. x < n) (ap (λ (L : LayeredMatrix). L.columns) c.give.ensures.gained.layers) l)) apart

pub overflow_add-self : goal.overflow_add-self
overflow_add-self g c =
    let S = g.T.Tableau.state c.self.inside.mover.pair.tableau in
    let M = c.self.inside.mover.pair.mates in
    let small : c.self.inside.size ≤ 8192 =
    omega (arith, c.self.invariant.count, size-bound g.F.Field.modulus S M c.self.invariant.pair, c.give.ensures.narrow) in
    omega (arith, small)

pub give-requires-clause-order : goal.give-requires-clause-order
give-requires-clause-order g c =
    let e = c.self.inside in
    ready-order g.F.Field.modulus (g.T.Tableau.state e.mover.pair.tableau) e.mover.pair.mates e.search e.resting
    e.mover.marks e.size e.mover.pivots e.looks c.self.invariant

pub invariant_of-self : goal.invariant_of-self
invariant_of-self g c =
    let e = c.self.inside in
    let state = g.T.Tableau.state in
    let now = c.give.new.self in
    let E = c.give.ensures in
    ready-more g.F.Field.modulus (state e.mover.pair.tableau) e.mover.pair.mates e.search e.resting e.mover.marks
    e.size e.mover.pivots e.looks c.self.invariant e.search refl c.self.invariant.left (λ x l h. h)
    (state now.pair.tableau) now.pair.mates c.args.x c.unwrap-row.result E.gained
    e.resting now.marks now.pivots E.order c.close.new.resting c.close.new.self c.close.ensures
    0 e.looks (omega arith) (omega arith)
