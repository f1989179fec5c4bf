use Rattle.std.proofs.Common.{◌≡◌, ◌∙◌, false, inl, inr, ap, sym, subst, slice_set, is_some, not, Option, ℕ, arith}
use Rattle.std.proofs.lemmas.List.{get_or-set_other, get_or-set_same, length-set}
use Rattle.residue_theory.proofs.SumLaws.{nat_cases}
use Rattle.exchange_graph.specs.Marks.{members_of}
use Rattle.mixed_matrices.specs.Arcs.{is_free}
use Rattle.independent_matching.specs.Sides.{layers_of, tableau_of_pair}
use Rattle.independent_matching.proofs.FreeLaws.{not-told}
use Rattle.equation_choice.proofs.ArcLaws.{free-held}
use Rattle.equation_choice.proofs.pair.Pair.mark_free.Goals as goal

pub loop-x-preserved : goal.loop-x-preserved
loop-x-preserved g c =
    let S = g.T.Tableau.state c.args.self.now.tableau in
    let M = c.args.self.now.mates in
    let F = tableau_of_pair S M in
    let I = c.loop-x.invariant in
    let items = c.loop-x.marks in
    let x = c.loop-x.x in
    let now = slice_set items x c.is_none.result in
    record {
      free = λ y l. elim (nat_cases y x) [
        | inl q ↦ subst (λ k. members_of now k ≡ is_free F k) (sym q)
            (get_or-set_same items x c.is_none.result false (omega (arith, c.loop-x-test.true, I.count))
            ∙ (not-told (is_some c.row_of.result) c.is_none.result c.is_none.ensures
            ∙ (ap (λ (o : Option ℕ). not (is_some o)) c.row_of.ensures.row ∙ free-held (layers_of S M) F x)))
        | inr ne ↦ get_or-set_other items x y c.is_none.result false ne ∙ I.free y (omega (arith, l, ne))
      ];
      count = length-set items x c.is_none.result ∙ I.count;
    }
