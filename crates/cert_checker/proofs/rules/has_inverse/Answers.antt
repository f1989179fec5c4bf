use Rattle.std.proofs.Common.{◌≡◌, length, refl, subst, sym, ◌∙◌}
use Rattle.std.proofs.lemmas.Result.{IfOk-weaker}
use Rattle.dense_q.specs.Tables.{height}
use Rattle.linear_algebra.specs.Products.{identity}
use Rattle.cert_text.specs.Contents.{numbered_rows}
use Rattle.cert_text.specs.Readings.{matrix_of}
use Rattle.cert_text.specs.Printing.{PrintsMatrix}
use Rattle.cert_checker.proofs.FormSizes.{printed-count, printed-matrix, printed-rows}
use Rattle.cert_checker.proofs.ProductLaws.{inverse-iff, product_as}
use Rattle.cert_checker.proofs.rules.has_inverse.Goals as goal

pub is_product-requires-clause-a : goal.is_product-requires-clause-a
is_product-requires-clause-a g c =
    let number = g.F.Field.number in
    let p = g.F.Field.modulus in
    let form = c.args.form.now in
    let q = form.shape.q_rows in
    let s = printed-rows number c.s.result.now c.as_slice.result.now form.s c.as_slice.ensures c.s.ensures.s in
    let u = printed-rows number c.u.result.now c.as_slice-2.result.now form.u c.as_slice-2.ensures c.u.ensures.u in
    printed-matrix number p q q (length c.as_slice.result.now) (length c.as_slice-2.result.now) c.as_slice.result.now form.s s c.s.ensures.ccf.s
    (sym (printed-count number p q q c.as_slice.result.now form.s s c.s.ensures.ccf.s))
    (sym (printed-count number p q q c.as_slice-2.result.now form.u u c.u.ensures.ccf.u))

pub is_product-requires-clause-b : goal.is_product-requires-clause-b
is_product-requires-clause-b g c =
    let number = g.F.Field.number in
    let p = g.F.Field.modulus in
    let form = c.args.form.now in
    let q = form.shape.q_rows in
    let u = printed-rows number c.u.result.now c.as_slice-2.result.now form.u c.as_slice-2.ensures c.u.ensures.u in
    printed-matrix number p q q (length c.as_slice-2.result.now) c.q_rows-n.result c.as_slice-2.result.now form.u u c.u.ensures.ccf.u
    (sym (printed-count number p q q c.as_slice-2.result.now form.u u c.u.ensures.ccf.u)) (c.requires.q_rows ∙ sym c.q_rows-n.ensures)

pub is_product-requires-clause-c : goal.is_product-requires-clause-c
is_product-requires-clause-c g c =
    let number = g.F.Field.number in
    let p = g.F.Field.modulus in
    let form = c.args.form.now in
    let q = form.shape.q_rows in
    let n = c.q_rows-n.result in
    let s = printed-rows number c.s.result.now c.as_slice.result.now form.s c.as_slice.ensures c.s.ensures.s in
    let unit = printed-rows number c.in_ok-unit.unit c.as_slice-3.result.now _ c.as_slice-3.ensures refl in
    printed-matrix number p n n (length c.as_slice.result.now) n c.as_slice-3.result.now (numbered_rows number c.in_ok-unit.unit) unit c.in_ok-unit.ensures.is
    (c.q_rows-n.ensures ∙ sym c.requires.q_rows ∙ sym (printed-count number p q q c.as_slice.result.now form.s s c.s.ensures.ccf.s)) refl

pub returns : goal.returns
returns g c =
    let number = g.F.Field.number in
    let p = g.F.Field.modulus in
    let form = c.args.form.now in
    let q = form.shape.q_rows in
    let n = c.q_rows-n.result in
    let s = printed-rows number c.s.result.now c.as_slice.result.now form.s c.as_slice.ensures c.s.ensures.s in
    let u = printed-rows number c.u.result.now c.as_slice-2.result.now form.u c.as_slice-2.ensures c.u.ensures.u in
    let unit = printed-rows number c.in_ok-unit.unit c.as_slice-3.result.now (numbered_rows number c.in_ok-unit.unit) c.as_slice-3.ensures refl in
    let size = c.requires.q_rows in
    let view : n ≡ height c.args.layered.now.q = c.q_rows-n.ensures in
    let printed : PrintsMatrix p _ _ identity (numbered_rows number c.in_ok-unit.unit) =
    subst (λ k. PrintsMatrix p k k identity (numbered_rows number c.in_ok-unit.unit)) view c.in_ok-unit.ensures in
    let sizes = product_as p (numbered_rows number c.as_slice-3.result.now) (numbered_rows number c.in_ok-unit.unit)
    (numbered_rows number c.as_slice.result.now) form.s
    (numbered_rows number c.as_slice-2.result.now) form.u _ _ _ _ _ _
    (printed-count number p q q c.as_slice.result.now form.s s c.s.ensures.ccf.s ∙ size) view
    (printed-count number p q q c.as_slice-2.result.now form.u u c.u.ensures.ccf.u ∙ size) unit s u in
    let inverse = inverse-iff p _ (matrix_of form.s) (matrix_of form.u) (matrix_of (numbered_rows number c.in_ok-unit.unit)) printed.same in
    IfOk-weaker c.is_product.result _ _ (λ answer h. (λ x. inverse.0 (sizes.0 (h.0 x)), λ y. h.1 (sizes.1 (inverse.1 y)))) c.is_product.ensures
