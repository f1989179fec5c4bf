use Rattle.std.proofs.Common.{◌≡◌, ◌+◌, ◌-◌, ◌<◌, ◌≤◌, ◌∙◌, true, cond, ap, sym, subst, refl, arith}
use Rattle.residue_theory.specs.Sums.{size_on}
use Rattle.exchange_graph.specs.Results.{step_of}
use Rattle.mixed_augmentation_laws.specs.Moves.{route}
use Rattle.mixed_augmentation_laws.proofs.Sealed.{self-keeps}
use Rattle.mixed_matrices.specs.LayeredMatrices.{LayeredMatrix}
use Rattle.mixed_matrices.specs.Tableaus.{HasTableau}
use Rattle.independent_matching.specs.Sides.{AreRowsMoving, CanTake, IsMoving, Takes, in_q, is_matched, layers_of, number, row_had, size_of, tableau_of_pair}
use Rattle.independent_matching.proofs.LeftLaws.{move-rows, moved-rows, moving-rows}
use Rattle.independent_matching.proofs.MoveLaws.{can-take, moving-apart, moving-below, moving-count, moving-keeps, moving-next}
use Rattle.independent_matching.proofs.MoveLaws.{moving-none, moving-pivots, moving-positive, moving-size}
use Rattle.independent_matching.proofs.MoveLaws.{moving-start, moving-tableau, moving-taken, step-below}
use Rattle.independent_matching.proofs.MadeLaws.{more-made, none-made, some-made}
use Rattle.independent_matching.proofs.RunLaws.{base-bound, pivots-bound, pivots-more, size-bound}
use Rattle.independent_matching.proofs.mover.Mover.augment.Goals as goal

pub loop-next-init : goal.loop-next-init
loop-next-init g c =
    let S = g.T.Tableau.state c.args.self.now.pair.tableau in
    let M = c.args.self.now.pair.mates in
    let at = step_of c.args.search.now in
    record {
      moving = moving-start g.F.Field.modulus S M c.requires.order.pair at c.args.last c.args.end c.requires.route;
      rows = moving-rows M c.args.end;
      sealed = self-keeps g.F.Field.modulus (layers_of S M) (tableau_of_pair S M);
      marks = c.requires.order.marks;
      count = refl;
      pivots = refl;
      made = none-made (g.T.Tableau.pivots c.args.self.now.pair.tableau) c.args.self.now.pivots;
    }

pub take-requires-clause-x : goal.take-requires-clause-x
take-requires-clause-x g c =
    let p = g.F.Field.modulus in
    let S₀ = g.T.Tableau.state c.args.self.now.pair.tableau in
    let M₀ = c.args.self.now.pair.mates in
    let S = g.T.Tableau.state c.loop-next.self.pair.tableau in
    let M = c.loop-next.self.pair.mates in
    let I = c.loop-next.invariant in
    subst (λ n. c.step-x.result < n) (sym (ap (λ (L : LayeredMatrix). L.columns) I.moving.layers))
    (step-below p S₀ M₀ c.requires.order.pair (step_of c.args.search.now) c.args.last c.args.end c.requires.route S M
    c.loop-next.next c.in-Some.row c.loop-next.left I.moving c.in-Some.is c.step-x.result c.step-x.ensures)

pub row_of-next-requires-clause-tableau : goal.row_of-next-requires-clause-tableau
row_of-next-requires-clause-tableau g c =
    let p = g.F.Field.modulus in
    let S₀ = g.T.Tableau.state c.args.self.now.pair.tableau in
    let M₀ = c.args.self.now.pair.mates in
    let S = g.T.Tableau.state c.loop-next.self.pair.tableau in
    let M = c.loop-next.self.pair.mates in
    let I = c.loop-next.invariant in
    subst (λ n. c.step-x.result < n) (sym (ap (λ (L : LayeredMatrix). L.columns) I.moving.layers))
    (step-below p S₀ M₀ c.requires.order.pair (step_of c.args.search.now) c.args.last c.args.end c.requires.route S M
    c.loop-next.next c.in-Some.row c.loop-next.left I.moving c.in-Some.is c.step-x.result c.step-x.ensures)

pub row_of-next-requires-clause-mates : goal.row_of-next-requires-clause-mates
row_of-next-requires-clause-mates g c =
    let p = g.F.Field.modulus in
    let S₀ = g.T.Tableau.state c.args.self.now.pair.tableau in
    let M₀ = c.args.self.now.pair.mates in
    let S = g.T.Tableau.state c.loop-next.self.pair.tableau in
    let M = c.loop-next.self.pair.mates in
    let I = c.loop-next.invariant in
    subst (λ n. c.step-x.result < n) (sym (I.moving.width ∙ c.requires.order.width))
    (step-below p S₀ M₀ c.requires.order.pair (step_of c.args.search.now) c.args.last c.args.end c.requires.route S M
    c.loop-next.next c.in-Some.row c.loop-next.left I.moving c.in-Some.is c.step-x.result c.step-x.ensures)

pub take-requires-clause-can : goal.take-requires-clause-can
take-requires-clause-can g c =
    let p = g.F.Field.modulus in
    let S₀ = g.T.Tableau.state c.args.self.now.pair.tableau in
    let M₀ = c.args.self.now.pair.mates in
    let S = g.T.Tableau.state c.loop-next.self.pair.tableau in
    let M = c.loop-next.self.pair.mates in
    let at = step_of c.args.search.now in
    let i = c.loop-next.left - 1 in
    let I = c.loop-next.invariant in
    let positive : 0 < c.loop-next.left =
    moving-positive p S₀ M₀ c.requires.order.pair at c.args.last c.args.end c.requires.route S M c.loop-next.next
    c.in-Some.row c.loop-next.left I.moving c.in-Some.is in
    let here : i + 1 ≡ c.loop-next.left = omega (arith, positive) in
    let x_is : c.step-x.result ≡ at i = c.step-x.ensures in
    subst (λ x. CanTake p (layers_of S M) (tableau_of_pair S M) c.in-Some.row x) (sym x_is)
    (can-take p S₀ M₀ c.requires.order.pair at c.args.last c.args.end c.requires.route S M c.loop-next.next c.in-Some.row
    c.loop-next.left I.moving c.in-Some.is i here)

pub loop-next-preserved : goal.loop-next-preserved
loop-next-preserved g c =
    let p = g.F.Field.modulus in
    let S₀ = g.T.Tableau.state c.args.self.now.pair.tableau in
    let M₀ = c.args.self.now.pair.mates in
    let S = g.T.Tableau.state c.loop-next.self.pair.tableau in
    let M = c.loop-next.self.pair.mates in
    let S' = g.T.Tableau.state c.take.new.self.pair.tableau in
    let M' = c.take.new.self.pair.mates in
    let at = step_of c.args.search.now in
    let i = c.loop-next.left - 1 in
    let I = c.loop-next.invariant in
    let positive : 0 < c.loop-next.left =
    moving-positive p S₀ M₀ c.requires.order.pair at c.args.last c.args.end c.requires.route S M c.loop-next.next
    c.in-Some.row c.loop-next.left I.moving c.in-Some.is in
    let here : i + 1 ≡ c.loop-next.left = omega (arith, positive) in
    let x_is : c.step-x.result ≡ at i = c.step-x.ensures in
    record {
      moving = subst (λ next. IsMoving p S₀ M₀ (route (tableau_of_pair S₀ M₀) at c.args.last (in_q c.args.end)
          (number c.args.end)) S' M' next i) (sym (c.row_of-next.ensures ∙ ap (row_had (tableau_of_pair S M)) x_is))
          (moving-next p S₀ M₀ c.requires.order.pair at c.args.last c.args.end c.requires.route S M c.loop-next.next
          c.in-Some.row c.loop-next.left I.moving c.in-Some.is i here S' M' c.take.ensures.taken.layers
          c.take.ensures.taken.pattern
          (subst (λ x. Takes p (layers_of S M) (tableau_of_pair S M) (tableau_of_pair S' M') c.in-Some.row x) x_is c.take.ensures.taken.takes));
      rows = subst (λ next. AreRowsMoving M₀ c.args.end M' next) (sym c.row_of-next.ensures)
          (move-rows p S S' M M' (omega (
            arith,
            I.moving.width,
            c.requires.order.width,
            ap
                (λ (L : LayeredMatrix). L.columns) I.moving.layers,
          ))
          (ap (λ m. m.width) c.take.ensures.taken.pattern) c.step-x.result
          (subst (λ n. c.step-x.result < n) (sym (ap (λ (L : LayeredMatrix). L.columns) I.moving.layers))
          (subst (λ x. x < S₀.columns) (sym x_is)
          (moving-below p S₀ M₀ c.requires.order.pair at c.args.last c.args.end c.requires.route S M c.loop-next.next
          c.in-Some.row c.loop-next.left I.moving c.in-Some.is i here)))
          (subst (λ x. S.base x ≡ true → is_matched M x ≡ true → ⊥) (sym x_is)
          (moving-apart p S₀ M₀ c.requires.order.pair at c.args.last c.args.end c.requires.route S M c.loop-next.next
          c.in-Some.row c.loop-next.left I.moving c.in-Some.is i here))
          c.in-Some.row c.take.ensures.taken.takes M₀ c.args.end (subst (λ next. AreRowsMoving M₀ c.args.end M next) c.in-Some.is I.rows));
      sealed = moving-keeps p S₀ M₀ c.requires.order.pair at c.args.last c.args.end c.requires.route S M
          c.loop-next.next c.in-Some.row c.loop-next.left I.moving c.in-Some.is i here S' M' c.take.ensures.taken.layers
          c.take.ensures.taken.pattern (subst (λ x. Takes p (layers_of S M) (tableau_of_pair S M) (tableau_of_pair S' M') c.in-Some.row x)
          x_is c.take.ensures.taken.takes) I.sealed;
      marks = c.take.ensures.marks;
      count = omega (
        arith,
        c.take.ensures.steps,
        I.count,
        moving-count p S₀ M₀ c.requires.order.pair at c.args.last c.args.end c.requires.route S M c.loop-next.next
            c.in-Some.row c.loop-next.left I.moving c.in-Some.is i here,
      );
      pivots = omega (arith, c.take.ensures.steps, c.take.ensures.pivots, I.pivots);
      made = more-made (g.T.Tableau.pivots c.args.self.now.pair.tableau) (g.T.Tableau.pivots c.loop-next.self.pair.tableau)
          (g.T.Tableau.pivots c.take.new.self.pair.tableau) c.args.self.now.pivots c.loop-next.self.pivots
          c.take.new.self.pivots I.made (some-made _ _ _ _ (cond (in_q c.in-Some.row) 1 0) c.take.ensures.pivots c.take.ensures.made);
    }

pub returns-clause-pivots : goal.returns-clause-pivots
returns-clause-pivots g c =
    let p = g.F.Field.modulus in
    let S₀ = g.T.Tableau.state c.args.self.now.pair.tableau in
    let M₀ = c.args.self.now.pair.mates in
    let at = step_of c.args.search.now in
    record {
      few = omega (
        arith,
        c.loop-next.invariant.count,
        moving-pivots p S₀ M₀ c.requires.order.pair at c.args.last c.args.end c.requires.route,
        moving-none p S₀ M₀ c.requires.order.pair at c.args.last c.args.end c.requires.route
            (g.T.Tableau.state c.loop-next.self.pair.tableau) c.loop-next.self.pair.mates c.loop-next.next
            c.loop-next.left c.loop-next.invariant.moving c.in_default.is,
      );
      told = c.loop-next.invariant.pivots;
      all = c.loop-next.invariant.made;
    }

pub take-requires-clause-few : goal.take-requires-clause-few
take-requires-clause-few g c =
    let p = g.F.Field.modulus in
    let S₀ = g.T.Tableau.state c.args.self.now.pair.tableau in
    let M₀ = c.args.self.now.pair.mates in
    let at = step_of c.args.search.now in
    let small : size_of S₀ M₀ ≤ 8192 = omega (
      arith,
      size-bound p S₀ M₀ c.requires.order.pair,
      c.is_tableau.ensures.narrow,
    ) in
    omega (
      arith,
      small,
      c.loop-next.invariant.count,
      c.loop-next.invariant.pivots,
      pivots-bound (size_of S₀ M₀) c.args.self.now.pivots c.requires.order.few small,
      moving-pivots p S₀ M₀ c.requires.order.pair at c.args.last c.args.end c.requires.route,
      base-bound S₀ M₀,
    )

pub returns-clause-order : goal.returns-clause-order
returns-clause-order g c =
    let p = g.F.Field.modulus in
    let S₀ = g.T.Tableau.state c.args.self.now.pair.tableau in
    let M₀ = c.args.self.now.pair.mates in
    let S = g.T.Tableau.state c.loop-next.self.pair.tableau in
    let M = c.loop-next.self.pair.mates in
    let at = step_of c.args.search.now in
    let I = c.loop-next.invariant in
    record {
      pair = subst (λ L. HasTableau p L (tableau_of_pair S M)) (sym I.moving.layers)
          (moving-tableau p S₀ M₀ c.requires.order.pair at c.args.last c.args.end c.requires.route S M c.loop-next.next
          c.loop-next.left I.moving c.in_default.is);
      width = I.moving.width ∙ (c.requires.order.width ∙ sym (ap (λ (L : LayeredMatrix). L.columns) I.moving.layers));
      marks = I.marks;
      few = pivots-more (size_of S₀ M₀) (size_of S M) c.args.self.now.pivots (size_on S₀.base S₀.columns + 1)
          c.loop-next.self.pivots c.requires.order.few
          (omega (arith, I.count, I.pivots, moving-pivots p S₀ M₀ c.requires.order.pair at c.args.last c.args.end c.requires.route))
          (omega (arith, base-bound S₀ M₀))
          (moving-size p S₀ M₀ c.requires.order.pair at c.args.last c.args.end c.requires.route S M c.loop-next.next
          c.loop-next.left I.moving c.in_default.is);
    }

pub returns-clause-gained : goal.returns-clause-gained
returns-clause-gained g c =
    let p = g.F.Field.modulus in
    let S₀ = g.T.Tableau.state c.args.self.now.pair.tableau in
    let M₀ = c.args.self.now.pair.mates in
    let S = g.T.Tableau.state c.loop-next.self.pair.tableau in
    let M = c.loop-next.self.pair.mates in
    let at = step_of c.args.search.now in
    let I = c.loop-next.invariant in
    record {
      layers = I.moving.layers;
      size = moving-size p S₀ M₀ c.requires.order.pair at c.args.last c.args.end c.requires.route S M c.loop-next.next
          c.loop-next.left I.moving c.in_default.is;
      rows = moved-rows M₀ M c.args.end c.loop-next.next c.in_default.is I.rows;
      taken = moving-taken p S₀ M₀ c.requires.order.pair at c.args.last c.args.end c.requires.route S M c.loop-next.next
          c.loop-next.left I.moving c.in_default.is;
      sealed = I.sealed;
    }
