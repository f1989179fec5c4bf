use Rattle.std.proofs.Common.{subst}
use Rattle.std.proofs.lemmas.Result.{IfOk-weaker}
use Rattle.dense_q.specs.Tables.{entry}
use Rattle.mixed_matrices.specs.LayeredMatrices.{LayeredMatrix}
use Rattle.mixed_model.specs.Layers.{layered_matrix_of}
use Rattle.ccf_builder.specs.Canonical.{AreCanonicalLists}
use Rattle.edit_desk.specs.Held.{HeldModel}
use Rattle.edit_desk.proofs.HeldLaws.{held-clear}
use Rattle.edit_desk.proofs.held.Held.parts.Goals as goal

pub parts-requires : goal.parts-requires
parts-requires g c = held-clear g.row.T.Denot g.T.Tableau.state g.F.Field.modulus
    (record { model = c.self.inside.model; layers = c.self.inside.layered; engine = c.self.inside.engine }) c.self.invariant

pub returns : goal.returns
returns g c =
    let p = g.F.Field.modulus in
    let best = c.self.invariant.best in
    IfOk-weaker c.parts.result _ _ (λ parts all.
    subst (λ (v : HeldModel g.row.T.Denot). AreCanonicalLists p (layered_matrix_of v.layers) parts) c.self.view_is
    (subst (λ (L : LayeredMatrix). AreCanonicalLists p L parts) best.layers_are (all (entry c.self.inside.layered.q) best.entries)))
    c.parts.ensures
