use Rattle.std.proofs.Common.{length, sym, subst}
use Rattle.mixed_model.specs.Models.{mixed_matrix_of}
use Rattle.mixed_layering.specs.Columns.{AreColumns}
use Rattle.mixed_layering.specs.Members.{AreEquations, AreSplit}
use Rattle.mixed_layering.specs.Layers.{AreLayersOf}
use Rattle.mixed_layering.proofs.MemberLaws.{q_equations-are, t_equations-are, split-are}
use Rattle.mixed_layering.proofs.LayerLaws.{layers-seen}
use Rattle.mixed_layering.proofs.layering.layer.Goals as goal

pub constants_of-requires-clause-equations : goal.constants_of-requires-clause-equations
constants_of-requires-clause-equations g c =
    let rows = c.in_ok-rows.rows in
    let model = c.args.model.now in
    subst (AreEquations (length model.equations)) (sym c.deref.ensures.value)
    (q_equations-are (mixed_matrix_of model) (length model.equations) rows.constants.items rows.symbols.items
    rows.split.items c.in_ok-rows.ensures.rows c.in_ok-rows.ensures.model.equations.few)

pub constants_of-requires-clause-split : goal.constants_of-requires-clause-split
constants_of-requires-clause-split g c =
    let rows = c.in_ok-rows.rows in
    let model = c.args.model.now in
    subst (AreSplit (length model.equations)) (sym c.deref-2.ensures.value)
    (split-are (mixed_matrix_of model) (length model.equations) rows.constants.items rows.symbols.items rows.split.items
    c.in_ok-rows.ensures.rows c.in_ok-rows.ensures.model.equations.few)

pub symbols_of-requires-clause-equations : goal.symbols_of-requires-clause-equations
symbols_of-requires-clause-equations g c =
    let rows = c.in_ok-rows.rows in
    let model = c.args.model.now in
    subst (AreEquations (length model.equations)) (sym c.deref-3.ensures.value)
    (t_equations-are (mixed_matrix_of model) (length model.equations) rows.constants.items rows.symbols.items
    rows.split.items c.in_ok-rows.ensures.rows c.in_ok-rows.ensures.model.equations.few)

pub symbols_of-requires-clause-split : goal.symbols_of-requires-clause-split
symbols_of-requires-clause-split g c =
    let rows = c.in_ok-rows.rows in
    let model = c.args.model.now in
    subst (AreSplit (length model.equations)) (sym c.deref-4.ensures.value)
    (split-are (mixed_matrix_of model) (length model.equations) rows.constants.items rows.symbols.items rows.split.items
    c.in_ok-rows.ensures.rows c.in_ok-rows.ensures.model.equations.few)

pub returns : goal.returns
returns g c =
    let rows = c.in_ok-rows.rows in
    let model = c.args.model.now in
    subst (AreLayersOf model) (sym c.new.ensures)
    (layers-seen model rows.constants.items rows.symbols.items rows.split.items c.in_ok-rows.ensures.rows c.in_ok-q.q c.in_ok-t.t c.in_ok-columns.columns.items
    c.deref.result.now c.deref-3.result.now c.deref-2.result.now c.deref-4.result.now c.deref-5.result.now
    c.deref.ensures.value c.deref-3.ensures.value c.deref-2.ensures.value c.deref-4.ensures.value c.deref-5.ensures.value
    c.in_ok-q.ensures c.in_ok-t.ensures
    (subst (λ u. AreColumns u c.deref-5.result.now
    (length c.deref-5.result.now) c.in_ok-columns.columns.items) c.unknowns.ensures.count c.in_ok-columns.ensures))
