use Rattle.std.proofs.Common.{◌≤◌, ◌∙◌, cond, ap, subst, sym, arith}
use Rattle.mixed_matrices.specs.LayeredMatrices.{LayeredMatrix}
use Rattle.mixed_matrices.specs.Tableaus.{HasTableau}
use Rattle.independent_matching.specs.Sides.{in_q, size_of, tableau_of_pair}
use Rattle.independent_matching.proofs.MadeLaws.{some-made}
use Rattle.independent_matching.proofs.RunLaws.{pivots-bound, pivots-more, size-bound}
use Rattle.independent_matching.proofs.StepLaws.{one-keeps, one-rows, one-size, one-step, one-tableau, one-take, one-taken}
use Rattle.independent_matching.proofs.mover.Mover.give.Goals as goal

pub take-requires-clause-can : goal.take-requires-clause-can
take-requires-clause-can g c = one-take g.F.Field.modulus
    (g.T.Tableau.state c.args.self.now.pair.tableau) c.args.self.now.pair.mates c.requires.order.pair
    c.args.x c.requires.x c.args.row c.requires.free c.requires.row

pub take-requires-clause-few : goal.take-requires-clause-few
take-requires-clause-few g c =
    let S = g.T.Tableau.state c.args.self.now.pair.tableau in
    let M = c.args.self.now.pair.mates in
    let small : size_of S M ≤ 8192 =
    omega (
      arith,
      size-bound g.F.Field.modulus S M c.requires.order.pair,
      c.is_tableau.ensures.narrow,
    ) in
    omega (arith, pivots-bound (size_of S M) c.args.self.now.pivots c.requires.order.few small)

pub returns-clause-order : goal.returns-clause-order
returns-clause-order g c =
    let p = g.F.Field.modulus in
    let S = g.T.Tableau.state c.args.self.now.pair.tableau in
    let M = c.args.self.now.pair.mates in
    let S' = g.T.Tableau.state c.take.new.self.pair.tableau in
    let M' = c.take.new.self.pair.mates in
    let E = c.take.ensures in
    record {
      pair = subst (λ L. HasTableau p L (tableau_of_pair S' M')) (sym E.taken.layers)
          (one-tableau p S M c.requires.order.pair c.args.x c.requires.x c.args.row c.requires.free c.requires.row S' M' E.taken.layers E.taken.pattern
          E.taken.takes);
      width = ap (λ m. m.width) E.taken.pattern ∙ (c.requires.order.width ∙ sym (ap (λ (L : LayeredMatrix). L.columns) E.taken.layers));
      marks = E.marks;
      few = pivots-more (size_of S M) (size_of S' M') c.args.self.now.pivots 1 c.take.new.self.pivots c.requires.order.few
          (omega (arith, E.pivots, E.steps, one-step c.args.row)) (omega arith)
          (one-size p S M c.requires.order.pair c.args.x c.requires.x c.args.row c.requires.free c.requires.row S' M' E.taken.layers E.taken.pattern
          E.taken.takes);
    }

pub returns-clause-gained : goal.returns-clause-gained
returns-clause-gained g c =
    let p = g.F.Field.modulus in
    let S = g.T.Tableau.state c.args.self.now.pair.tableau in
    let M = c.args.self.now.pair.mates in
    let S' = g.T.Tableau.state c.take.new.self.pair.tableau in
    let M' = c.take.new.self.pair.mates in
    let E = c.take.ensures in
    record {
      layers = E.taken.layers;
      size = one-size p S M c.requires.order.pair c.args.x c.requires.x c.args.row c.requires.free c.requires.row S' M' E.taken.layers E.taken.pattern
          E.taken.takes;
      rows = one-rows p S M c.requires.order.pair c.args.x c.requires.x c.args.row c.requires.free c.requires.row S' M'
          E.taken.layers E.taken.pattern E.taken.takes c.requires.order.width;
      taken = one-taken p S M c.requires.order.pair c.args.x c.requires.x c.args.row c.requires.free c.requires.row S' M' E.taken.layers E.taken.pattern
          E.taken.takes;
      sealed = one-keeps p S M c.requires.order.pair c.args.x c.requires.x c.args.row c.requires.free c.requires.row S' M' E.taken.layers E.taken.pattern
          E.taken.takes;
    }

pub returns-clause-pivots : goal.returns-clause-pivots
returns-clause-pivots g c =
    let E = c.take.ensures in
    record {
      few = omega (arith, E.steps, one-step c.args.row);
      told = omega (arith, E.steps, E.pivots);
      all = some-made _ _ _ _ (cond (in_q c.args.row) 1 0) E.pivots E.made;
    }
