use Rattle.std.proofs.Common.{◌∙◌, ap, sym, subst}
use Rattle.dense_q.specs.Tables.{entry, height}
use Rattle.mixed_model.specs.Layers.{Layers}
use Rattle.bipartite_matching.specs.Matchings.{empty_matching}
use Rattle.row_transform.specs.Tableaus.{IsOpened}
use Rattle.equation_choice.proofs.OverLaws.{opened-nothing, opened-pair}
use Rattle.equation_choice.proofs.chooser.Chooser.open.Goals as goal

pub returns-clause-ready : goal.returns-clause-ready
returns-clause-ready g c =
    let p = g.F.Field.modulus in
    let l = c.args.layered.now in
    let S = g.T.Tableau.state c.in_ok-tableau.tableau in
    let M = c.in_ok-open.field-0 in
    let opened = subst (λ (l : Layers). IsOpened p (height l.q) l.q.width (entry l.q) S) c.layered.view_is c.in_ok-tableau.ensures.opened in
    let empty = c.in_ok-open.ensures.empty ∙ ap (λ (l : Layers). empty_matching l.t) c.layered.view_is in
    let columns = c.columns-columns.ensures ∙ sym opened.columns_are in
    record {
      over = opened-pair p g.met.F.Field.prime l c.are_layers.ensures S M opened empty c.is_tableau.ensures.tableau c.in_ok-open.ensures.matching;
      places = c.in_ok-open-2.ensures.places ∙ columns;
      start_marks = c.in_ok-no_marks.ensures.count ∙ columns;
      free_marks = c.in_ok-no_marks-2.ensures.count ∙ columns;
    }

pub returns-clause-nothing : goal.returns-clause-nothing
returns-clause-nothing g c model of =
    let p = g.F.Field.modulus in
    let l = c.args.layered.now in
    let S = g.T.Tableau.state c.in_ok-tableau.tableau in
    let M = c.in_ok-open.field-0 in
    let opened = subst (λ (l : Layers). IsOpened p (height l.q) l.q.width (entry l.q) S) c.layered.view_is c.in_ok-tableau.ensures.opened in
    let empty = c.in_ok-open.ensures.empty ∙ ap (λ (l : Layers). empty_matching l.t) c.layered.view_is in
    opened-nothing p g.met.F.Field.prime l c.are_layers.ensures S M opened empty c.is_tableau.ensures.tableau c.in_ok-open.ensures.matching of.split
