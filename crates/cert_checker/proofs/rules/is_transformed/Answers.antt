use Rattle.std.proofs.Common.{length, refl, sym, ◌∙◌}
use Rattle.std.proofs.lemmas.Result.{IfOk-weaker}
use Rattle.dense_q.specs.Tables.{entry, height}
use Rattle.cert_text.specs.Contents.{numbered_rows}
use Rattle.cert_text.specs.Readings.{matrix_of}
use Rattle.cert_checker.proofs.FormSizes.{printed-count, printed-matrix, printed-rows}
use Rattle.cert_checker.proofs.ProductLaws.{product_as, product-same}
use Rattle.cert_checker.proofs.rules.is_transformed.Goals as goal

pub is_product-requires-clause-a : goal.is_product-requires-clause-a
is_product-requires-clause-a g c =
    let number = g.F.Field.number in
    let p = g.F.Field.modulus in
    let form = c.args.form.now in
    let layered = c.args.layered.now in
    let q = form.shape.q_rows in
    let Q = numbered_rows number c.in_ok-constants.constants in
    let s = printed-rows number c.s.result.now c.as_slice.result.now form.s c.as_slice.ensures c.s.ensures.s in
    let constants = printed-rows number c.in_ok-constants.constants c.as_slice-2.result.now Q c.as_slice-2.ensures refl in
    printed-matrix number p q q (length c.as_slice.result.now) (length c.as_slice-2.result.now) c.as_slice.result.now form.s s c.s.ensures.ccf.s
    (sym (printed-count number p q q c.as_slice.result.now form.s s c.s.ensures.ccf.s))
    (c.requires.q_rows ∙ sym (printed-count number p (height layered.q) layered.q.width c.as_slice-2.result.now Q constants
    c.in_ok-constants.ensures.is))

pub is_product-requires-clause-b : goal.is_product-requires-clause-b
is_product-requires-clause-b g c =
    let number = g.F.Field.number in
    let p = g.F.Field.modulus in
    let m = height c.args.layered.now.q in
    let n = c.args.layered.now.q.width in
    let Q = numbered_rows number c.in_ok-constants.constants in
    let constants = printed-rows number c.in_ok-constants.constants c.as_slice-2.result.now Q c.as_slice-2.ensures refl in
    printed-matrix number p m n (length c.as_slice-2.result.now) c.columns.result c.as_slice-2.result.now Q constants c.in_ok-constants.ensures.is
    (sym (printed-count number p m n c.as_slice-2.result.now Q constants c.in_ok-constants.ensures.is)) (sym c.columns.ensures)

pub is_product-requires-clause-c : goal.is_product-requires-clause-c
is_product-requires-clause-c g c =
    let number = g.F.Field.number in
    let p = g.F.Field.modulus in
    let form = c.args.form.now in
    let q = form.shape.q_rows in
    let n = form.shape.columns in
    let s = printed-rows number c.s.result.now c.as_slice.result.now form.s c.as_slice.ensures c.s.ensures.s in
    let P = printed-rows number c.p.result.now c.as_slice-3.result.now form.p c.as_slice-3.ensures c.p.ensures.p in
    printed-matrix number p q n (length c.as_slice.result.now) c.columns.result c.as_slice-3.result.now form.p P c.p.ensures.ccf.p
    (sym (printed-count number p q q c.as_slice.result.now form.s s c.s.ensures.ccf.s)) (c.requires.columns ∙ sym c.columns.ensures)

pub returns : goal.returns
returns g c =
    let number = g.F.Field.number in
    let p = g.F.Field.modulus in
    let form = c.args.form.now in
    let layered = c.args.layered.now in
    let q = form.shape.q_rows in
    let m = height layered.q in
    let n = layered.q.width in
    let Q = numbered_rows number c.in_ok-constants.constants in
    let s = printed-rows number c.s.result.now c.as_slice.result.now form.s c.as_slice.ensures c.s.ensures.s in
    let constants = printed-rows number c.in_ok-constants.constants c.as_slice-2.result.now Q c.as_slice-2.ensures refl in
    let P = printed-rows number c.p.result.now c.as_slice-3.result.now form.p c.as_slice-3.ensures c.p.ensures.p in
    let sizes = product_as p (numbered_rows number c.as_slice-3.result.now) form.p (numbered_rows number c.as_slice.result.now) form.s
    (numbered_rows number c.as_slice-2.result.now) Q
    (length c.as_slice.result.now) m c.columns.result n (length c.as_slice-2.result.now) m
    (printed-count number p q q c.as_slice.result.now form.s s c.s.ensures.ccf.s ∙ c.requires.q_rows) c.columns.ensures
    (printed-count number p m n c.as_slice-2.result.now Q constants c.in_ok-constants.ensures.is) P s constants in
    let entries = product-same p m n m (matrix_of form.p) (matrix_of form.s) (matrix_of Q) (entry layered.q) c.in_ok-constants.ensures.same in
    IfOk-weaker c.is_product.result _ _ (λ answer h. (λ x. entries.0 (sizes.0 (h.0 x)), λ y. h.1 (sizes.1 (entries.1 y)))) c.is_product.ensures
