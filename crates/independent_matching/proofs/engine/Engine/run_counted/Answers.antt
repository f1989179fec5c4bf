use Rattle.std.proofs.Common.{◌≡◌, ◌+◌, ◌-◌, ◌<◌, ◌≤◌, ◌∙◌, ap, refl, sym, subst, arith}
use Rattle.mixed_matrices.specs.LayeredMatrices.{LayeredMatrix}
use Rattle.independent_matching.specs.Engines.{HasRun}
use Rattle.independent_matching.specs.Sides.{size_of}
use Rattle.independent_matching.proofs.RunLaws.{IsGrowing, growing-last, growing-more, growing-start, size-bound}
use Rattle.independent_matching.proofs.engine.Engine.run_counted.Goals as goal

pub loop-made-init : goal.loop-made-init
loop-made-init g c = record {
  growing = growing-start g.row.T.Denot g.T.Tableau.state g.T.Tableau.pivots g.F.Field.modulus c.args.self.now c.args.steps.now;
  asked = refl;
}

pub overflow_add-made : goal.overflow_add-made
overflow_add-made g c =
    let state = g.T.Tableau.state in
    let e = c.self-in-loop-made.inside in
    let same : (state e.mover.pair.tableau).columns ≡ (state c.self.inside.mover.pair.tableau).columns =
    ap (λ (v : _). (state v.tableau).columns) c.self-in-loop-made.view_is
    ∙ (ap (λ (L : LayeredMatrix). L.columns) (c.loop-made-test.ensures.same (state c.args.self.now.tableau).q)
    ∙ (ap (λ (L : LayeredMatrix). L.columns) (c.loop-made.invariant.growing.same (state c.args.self.now.tableau).q)
    ∙ sym (ap (λ (v : _). (state v.tableau).columns) c.self.view_is))) in
    let small : e.size ≤ 8192 = omega (
      arith,
      same,
      c.self-in-loop-made.invariant.count,
      size-bound g.F.Field.modulus (state e.mover.pair.tableau) e.mover.pair.mates c.self-in-loop-made.invariant.pair,
      c.is_tableau.ensures.narrow,
    ) in
    omega (arith, small)

pub loop-made-smaller : goal.loop-made-smaller
loop-made-smaller g c =
    let state = g.T.Tableau.state in
    let e = c.self-in-loop-made.inside in
    let now = c.loop-made.self in
    let next = c.improve.new.self in
    let N = (state c.args.self.now.tableau).columns in
    let same : (state e.mover.pair.tableau).columns ≡ N =
    ap (λ (v : _). (state v.tableau).columns) c.self-in-loop-made.view_is
    ∙ (ap (λ (L : LayeredMatrix). L.columns) (c.loop-made-test.ensures.same (state c.args.self.now.tableau).q)
    ∙ ap (λ (L : LayeredMatrix). L.columns) (c.loop-made.invariant.growing.same (state c.args.self.now.tableau).q)) in
    let size : size_of (state e.mover.pair.tableau) e.mover.pair.mates ≡ size_of (state next.tableau) next.matching =
    ap (λ (v : _). size_of (state v.tableau) v.matching) c.self-in-loop-made.view_is in
    let fewer : N - size_of (state next.tableau) next.matching < N - size_of (state now.tableau) now.matching = omega (
      arith,
      same,
      size,
      size-bound g.F.Field.modulus (state e.mover.pair.tableau) e.mover.pair.mates c.self-in-loop-made.invariant.pair,
      (c.loop-made-test.ensures.grown refl).size,
    ) in
    fewer

pub loop-made-preserved : goal.loop-made-preserved
loop-made-preserved g c =
    let state = g.T.Tableau.state in
    let I = c.loop-made.invariant in
    let E = c.loop-made-test.ensures in
    let old = c.args.self.now in
    let next = c.improve.new.self in
    let start : c.self.inside.size ≡ size_of (state old.tableau) old.matching =
    c.self.invariant.count ∙ ap (λ (v : _). size_of (state v.tableau) v.matching) c.self.view_is in
    let end : c.self-in-loop-made.inside.size ≡ size_of (state next.tableau) next.matching =
    c.self-in-loop-made.invariant.count ∙ ap (λ (v : _). size_of (state v.tableau) v.matching) c.self-in-loop-made.view_is in
    let more : IsGrowing g.row.T.Denot state g.T.Tableau.pivots g.F.Field.modulus old next (c.loop-made.made + 1) c.args.steps.now c.improve.new.steps =
    growing-more g.row.T.Denot state g.T.Tableau.pivots g.F.Field.modulus old c.loop-made.self next c.loop-made.made c.args.steps.now
    c.loop-made.steps c.improve.new.steps I.growing E.same E.entries (E.grown refl) in
    let made : c.loop-made.made + 1 ≡ c.self-in-loop-made.inside.size - c.self.inside.size + 1 = omega (arith, start, end, more.searched) in
    record {
      growing = subst (λ k. IsGrowing g.row.T.Denot state g.T.Tableau.pivots g.F.Field.modulus old next k c.args.steps.now c.improve.new.steps) made more;
      asked = omega (arith, E.searches, I.asked, made);
    }

pub returns-clause-run : goal.returns-clause-run
returns-clause-run g c =
    let E = c.loop-made-test.ensures in
    subst (λ e. HasRun g.row.T.Denot g.T.Tableau.state g.T.Tableau.pivots g.F.Field.modulus c.args.self.now (record e { searches = c.loop-made.made })
    c.args.steps.now c.improve.new.steps) (sym c.self-2.view_is)
    (growing-last g.row.T.Denot g.T.Tableau.state g.T.Tableau.pivots g.F.Field.modulus c.args.self.now c.loop-made.self c.improve.new.self
    c.loop-made.made c.args.steps.now c.loop-made.steps c.improve.new.steps c.loop-made.invariant.growing E.same E.entries
    (E.best refl))
