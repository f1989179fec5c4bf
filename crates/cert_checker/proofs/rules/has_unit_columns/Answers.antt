use Rattle.std.proofs.Common.{length, sym, ◌∙◌}
use Rattle.std.proofs.lemmas.Result.{IfOk-weaker}
use Rattle.cert_checker.proofs.FormSizes.{pairs-as, printed-count, printed-matrix, printed-rows, units_as}
use Rattle.cert_checker.proofs.rules.has_unit_columns.Goals as goal

pub are_units-requires-clause-p : goal.are_units-requires-clause-p
are_units-requires-clause-p g c =
    let number = g.F.Field.number in
    let p = g.F.Field.modulus in
    let form = c.args.form.now in
    let P = printed-rows number c.p.result.now c.as_slice.result.now form.p c.as_slice.ensures c.p.ensures.p in
    printed-matrix number p form.shape.q_rows form.shape.columns
    (length c.as_slice.result.now) c.columns.result c.as_slice.result.now form.p P c.p.ensures.ccf.p
    (sym (printed-count number p form.shape.q_rows form.shape.columns c.as_slice.result.now form.p P c.p.ensures.ccf.p))
    (c.requires.columns ∙ sym c.columns.ensures)

pub are_units-requires-clause-base : goal.are_units-requires-clause-base
are_units-requires-clause-base g c =
    let number = g.F.Field.number in
    let p = g.F.Field.modulus in
    let form = c.args.form.now in
    let P = printed-rows number c.p.result.now c.as_slice.result.now form.p c.as_slice.ensures c.p.ensures.p in
    pairs-as form.shape.q_rows form.shape.columns (length c.as_slice.result.now) c.columns.result form.base
    c.as_slice-2.result.now (c.as_slice-2.ensures ∙ c.base.ensures.base) c.base.ensures.ccf.base
    (sym (printed-count number p form.shape.q_rows form.shape.columns c.as_slice.result.now form.p P c.p.ensures.ccf.p))
    (c.requires.columns ∙ sym c.columns.ensures)

pub returns : goal.returns
returns g c =
    let number = g.F.Field.number in
    let p = g.F.Field.modulus in
    let form = c.args.form.now in
    let P = printed-rows number c.p.result.now c.as_slice.result.now form.p c.as_slice.ensures c.p.ensures.p in
    let same = units_as p _ _ _ _ _ _
    (printed-count number p form.shape.q_rows form.shape.columns c.as_slice.result.now form.p P c.p.ensures.ccf.p
    ∙ c.requires.q_rows) P (c.as_slice-2.ensures ∙ c.base.ensures.base) in
    IfOk-weaker c.are_units.result _ _ (λ answer h. (λ x. same.0 (h.0 x), λ y. h.1 (same.1 y))) c.are_units.ensures
