use Rattle.std.proofs.Common.{◌≡◌, ◌<◌, ℕ, ap, refl, subst, sym}
use Rattle.mixed_matrices.specs.LayeredMatrices.{LayeredMatrix}
use Rattle.independent_matching.specs.declared.marks.Marks.{Marks}
use Rattle.independent_matching.specs.Marks.{AreKeptMarks, IsQMark}
use Rattle.independent_matching.specs.Sides.{in_q, number}
use Rattle.independent_matching.proofs.MarkLaws.{mate-mark, untouched-mark}
use Rattle.independent_matching.proofs.mover.Mover.take.Goals as goal

pub returns-in-T-clause-marks : goal.returns-in-T-clause-marks
returns-in-T-clause-marks g c =
    let S = g.T.Tableau.state c.args.self.now.pair.tableau in
    let M = c.args.self.now.pair.mates in
    let S' = g.T.Tableau.state c.take-in-T.new.self.tableau in
    let M' = c.take-in-T.new.self.mates in
    let same : S'.columns ≡ S.columns = ap (λ (L : LayeredMatrix). L.columns) c.take-in-T.ensures.taken.layers in
    let here : (x : ℕ) → x < S'.columns → x < S.columns = λ x l. subst (λ n. x < n) same l in
    let marks = c.args.self.now.marks in
    record {
      sized = subst (λ n. AreKeptMarks n c.args.resting.now marks) (sym same) c.requires.marks.sized;
      by_q = λ x l. mate-mark g.F.Field.modulus S S' M M' c.args.x c.requires.x c.take-in-T.ensures.taken.layers
          (number c.args.row) (c.take-in-T.ensures.taken.takes.of_t (ap in_q c.in-T.is)) marks.by_q.items x
          (c.requires.marks.by_q x (here x l));
      ends = λ x l. c.requires.marks.ends x (here x l);
    }

pub settle-requires-clause-others : goal.settle-requires-clause-others
settle-requires-clause-others g c =
    let S = g.T.Tableau.state c.args.self.now.pair.tableau in
    let M = c.args.self.now.pair.mates in
    let S' = g.T.Tableau.state c.take.new.self.tableau in
    let M' = c.take.new.self.mates in
    let marks = c.touch.new.self in
    λ x l none.
    let here : x < S.columns = subst (λ n. x < n) (ap (λ (L : LayeredMatrix). L.columns) c.take.ensures.taken.layers) l in
    untouched-mark g.F.Field.modulus S S' M M' c.args.x c.requires.x c.take.ensures.taken.layers c.in-Q.at
    (c.requires.can.of_q (ap in_q c.in-Q.is)).2 (c.take.ensures.taken.takes.of_q refl)
    marks.by_q.items marks c.touch.ensures.touched x here none
    (subst (λ b. IsQMark g.F.Field.modulus S b.items x) (sym (ap (λ (m : Marks). m.by_q) c.touch.ensures.rest)) (c.requires.marks.by_q x here))
