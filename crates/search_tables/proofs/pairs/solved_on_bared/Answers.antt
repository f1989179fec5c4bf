use Rattle.std.proofs.Common.{subst}
use Rattle.dense_q.specs.Tables.{entry, height}
use Rattle.mixed_model.specs.Layers.{Layers}
use Rattle.independent_matching.specs.Engines.{IsBareOver}
use Rattle.independent_matching.proofs.OpenLaws.{opened-over}
use Rattle.search_tables.proofs.pairs.solved_on_bared.Goals as goal

pub open_on-requires : goal.open_on-requires
open_on-requires g c =
    let q = c.layered.inside.q in
    let S = g.T.Tableau.state c.pivot_and_bare.new.tableau in
    subst (λ (l : Layers). IsBareOver 65521 (height l.q) l.q.width (entry l.q) S) c.layered.view_is
    (c.pivot_and_bare.ensures 65521 (height q) q.width (entry q)
    (opened-over 65521 (height q) q.width (entry q) (g.T.Tableau.state c.in_ok-tableau.tableau)
    c.in_ok-tableau.ensures.opened))
