use Rattle.std.proofs.Common.{◌≡◌, ◌∙◌, inl, inr, sym, subst, ap, get_or, arith}
use Rattle.residue_theory.proofs.SumLaws.{nat_cases}
use Rattle.std.proofs.lemmas.List.{get_or_read_under}
use Rattle.independent_matching.specs.Marks.{IsEndMark, IsQMark, touched_at}
use Rattle.independent_matching.proofs.MarkLaws.{other-end, other-q}
use Rattle.independent_matching.proofs.marks.Marks.settle.Goals as goal

pub loop-at-preserved : goal.loop-at-preserved
loop-at-preserved g c =
    let p = g.F.Field.modulus in
    let S = g.T.Tableau.state c.args.pair.now.tableau in
    let I = c.loop-at.invariant in
    let at = c.loop-at.at in
    let x = c.index-x.result.now in
    let was = c.loop-at.self in
    let now = c.find_q_row.new.self in
    let Q' = c.find_q_row.ensures in
    let is : touched_at was at ≡ x = sym (get_or_read_under was.touched.items at _ x 0 c.index-x.ensures
    (omega (arith, I.sized.touched.few, I.count, c.loop-at-test.true)) (sym I.sized.touched.count)) in
    record {
      sized = Q'.sized;
      touched = Q'.touched ∙ I.touched;
      count = Q'.count ∙ I.count;
      ends = λ y l. elim (nat_cases y x) [
        | inl e ↦ subst (λ k. IsEndMark c.args.resting.now now k) (sym e) Q'.end
        | inr ne ↦ other-end c.args.resting.now c.args.resting.now was now x Q'.others y ne (I.ends y l)
      ];
      done = λ y l none. elim (nat_cases y x) [
        | inl e ↦ subst (λ k. IsQMark p S now.by_q.items k) (sym e) Q'.found
        | inr ne ↦ other-q c.args.resting.now c.args.resting.now was now x Q'.others y ne p S (I.done y l (λ i le less. elim (nat_cases i at) [
          | inl q ↦ λ h. ne (sym h ∙ (ap (touched_at c.args.self.now) q
              ∙ (ap (λ (m : _). get_or m.items at 0) (sym I.touched) ∙ is)))
          | inr other ↦ none i (omega (arith, le, other)) less
        ]))
      ];
    }
