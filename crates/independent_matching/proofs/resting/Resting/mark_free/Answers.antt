use Rattle.std.proofs.Common.{◌≡◌, ◌∙◌, false, inl, inr, ap, sym, subst, slice_set, is_some, not, arith}
use Rattle.std.proofs.lemmas.List.{get_or-set_other, get_or-set_same, length-set}
use Rattle.residue_theory.proofs.SumLaws.{nat_cases}
use Rattle.exchange_graph.specs.Marks.{members_of}
use Rattle.mixed_matrices.specs.Arcs.{is_free}
use Rattle.independent_matching.specs.Sides.{tableau_of_pair}
use Rattle.independent_matching.proofs.FreeLaws.{free-row_had, not-told}
use Rattle.independent_matching.proofs.resting.Resting.mark_free.Goals as goal

pub loop-x-preserved : goal.loop-x-preserved
loop-x-preserved g c =
    let F = tableau_of_pair (g.T.Tableau.state c.args.pair.now.tableau) c.args.pair.now.mates in
    let I = c.loop-x.invariant in
    let items = c.loop-x.self.free.items in
    let x = c.loop-x.x in
    let now = slice_set items x c.is_none.result in
    record {
      free = λ y l. elim (nat_cases y x) [
        | inl q ↦ subst (λ k. members_of now k ≡ is_free F k) (sym q)
            (get_or-set_same items x c.is_none.result false (omega (arith, c.loop-x-test.true, c.len-x-end.ensures, I.count))
            ∙ (not-told (is_some c.row_of.result) c.is_none.result c.is_none.ensures ∙ (ap (λ o. not (is_some o)) c.row_of.ensures ∙ free-row_had F x)))
        | inr ne ↦ get_or-set_other items x y c.is_none.result false ne ∙ I.free y (omega (arith, l, ne))
      ];
      count = length-set items x c.is_none.result ∙ I.count;
      by_t = I.by_t;
    }
