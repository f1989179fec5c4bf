use Rattle.std.proofs.Common.{◌∙◌, ap, subst}
use Rattle.std.proofs.lemmas.Result.{IfOk-weaker}
use Rattle.dense_q.specs.Tables.{entry, height}
use Rattle.mixed_model.specs.Layers.{Layers}
use Rattle.independent_matching.specs.Engines.{IsBareOver}
use Rattle.independent_matching.proofs.OpenLaws.{opened-over}
use Rattle.independent_matching.proofs.engine.Engine.open.Goals as goal

pub returns-clause-no_pivot : goal.returns-clause-no_pivot
returns-clause-no_pivot g c =
    IfOk-weaker c.open_on.result _ _ (λ e same. ap g.T.Tableau.pivots same ∙ c.in_ok-tableau.ensures.no_pivot)
    c.open_on.ensures.tableau

pub open_on-requires : goal.open_on-requires
open_on-requires g c =
    let p = g.F.Field.modulus in
    let q = c.l.inside.q in
    let S = g.T.Tableau.state c.in_ok-tableau.tableau in
    subst (λ (l : Layers). IsBareOver p (height l.q) l.q.width (entry l.q) S) c.l.view_is
    (opened-over p (height q) q.width (entry q) S c.in_ok-tableau.ensures.opened)
