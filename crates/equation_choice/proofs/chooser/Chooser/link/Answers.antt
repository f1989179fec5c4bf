use Rattle.std.proofs.Common.{◌∙◌, is_some, sym, subst, ap}
use Rattle.residue_theory.proofs.SetLaws.{differ}
use Rattle.sparse_t.specs.Incidences.{Incidence, touches}
use Rattle.bipartite_matching.specs.Matchings.{IsMatching}
use Rattle.mixed_pair_laws.proofs.ArcFacts.{free-tells}
use Rattle.independent_matching.proofs.FreeLaws.{not-told}
use Rattle.independent_matching.specs.Sides.{layers_of, tableau_of_pair}
use Rattle.equation_choice.specs.Choosers.{IsReadyChooser}
use Rattle.equation_choice.proofs.ArcLaws.{told-free}
use Rattle.equation_choice.proofs.OverLaws.{ready-linked, told-pair}
use Rattle.equation_choice.proofs.chooser.Chooser.link.Goals as goal
use Rattle.equation_choice.proofs.chooser.Chooser.link.Goals.{else-is_none-via-then-is_none+then-is_none-2+else-touches}
use Rattle.equation_choice.proofs.chooser.Chooser.link.Goals.{else-is_none-via-then-is_none+else-is_none-2, else-is_none-via-else-is_none}

pub returns-then-touches-clause-ready : goal.returns-then-touches-clause-ready
returns-then-touches-clause-ready g c =
    let p = g.F.Field.modulus in
    let l = c.args.layered.now in
    let S = g.T.Tableau.state c.args.self.now.pair.tableau in
    let M = c.args.self.now.pair.mates in
    let F = tableau_of_pair S M in
    let free = sym (told-free (layers_of S M) F c.args.x c.row_of.result c.row_of.ensures.row c.is_none-then-is_none.result
    (not-told (is_some c.row_of.result) c.is_none-then-is_none.result c.is_none-then-is_none.ensures)) ∙ c.if-is_none-2.true in
    subst (λ N. IsReadyChooser p l S N c.args.self.now.search c.args.self.now.starts.items c.args.self.now.free.items) (sym c.link.ensures.pair)
    (ready-linked p l S M c.args.self.now.search c.args.self.now.starts.items c.args.self.now.free.items c.requires.ready c.args.row c.args.x
    (subst (λ N. IsMatching N) c.link.ensures.pair c.link.ensures.matching) (free-tells F c.args.x free).0)

pub returns-else-is_none-clause-linked : goal.returns-else-is_none-clause-linked
returns-else-is_none-clause-linked g c loose free touching =
    let S = g.T.Tableau.state c.args.self.now.pair.tableau in
    let M = c.args.self.now.pair.mates in
    let F = tableau_of_pair S M in
    elim c.else-is_none.branch [
      | else-is_none-via-then-is_none+then-is_none-2+else-touches w ↦ absurd (differ (sym (w.touches.ensures
          ∙ ap (λ (P : Incidence). touches P c.args.row c.args.x) w.pattern.ensures.pattern) ∙ w.if-touches.false) touching)
      | else-is_none-via-then-is_none+else-is_none-2 w ↦ absurd (differ (sym (told-free (layers_of S M) F c.args.x w.row_of.result w.row_of.ensures.row
          w.is_none-then-is_none.result (not-told (is_some w.row_of.result) w.is_none-then-is_none.result w.is_none-then-is_none.ensures))
          ∙ w.if-is_none-2.false) free)
      | else-is_none-via-else-is_none w ↦ absurd (told-pair M c.args.row c.mate_of_row.result c.mate_of_row.ensures.some loose c.is_none.result
          (not-told (is_some c.mate_of_row.result) c.is_none.result c.is_none.ensures) w.if-is_none.false)
    ]
