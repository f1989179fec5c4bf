use Rattle.std.proofs.Common.{◌≡◌, ◌+◌, ◌∷◌, [], ◌++◌, IfSome, length, map, option_map, slice_index_or, ap, sym, subst, ◌∙◌, length-append}
use Rattle.std.proofs.lemmas.List.{length-map, map-append}
use Rattle.cert_text.specs.Contents.{numbered_rows}
use Rattle.cert_checker.specs.WideRows.{AreValues}
use Rattle.cert_checker.proofs.NumberedRows.{row_is, row_within}
use Rattle.cert_checker.proofs.WideLaws.{AreValuesOfFirst, values-next, some-as}
use Rattle.cert_checker.proofs.wide_rows.wide_rows.Goals as goal

pub values_if_wide-requires : goal.values_if_wide-requires
values_if_wide-requires g c =
    row_within g.F.Field.number g.F.Field.modulus (length c.args.matrix.now) c.args.columns c.args.matrix.now
    c.loop-row.row-index c.as_slice.result.now c.row-item.result c.requires c.loop-row-test.true c.as_slice.ensures c.row-item.is

pub loop-row-preserved : goal.loop-row-preserved
loop-row-preserved g c =
    let number = g.F.Field.number in
    let p = g.F.Field.modulus in
    let n = c.args.columns in
    let k = c.loop-row.row-index in
    let rows = numbered_rows number c.args.matrix.now in
    let seen = option_map (λ values. map number values.items) in
    let found = c.in_ok-values_if_wide.field-0 in
    let pushed : c.push.new.self.items ≡ c.loop-row.rows.items ++ found ∷ [] = c.in_ok-push.ensures.items in
    let here = subst (λ row. IfSome found (λ values. AreValues p n row (map number values.items)))
    (sym (row_is number c.args.matrix.now k c.as_slice.result.now c.row-item.result c.loop-row-test.true c.as_slice.ensures c.row-item.is))
    c.in_ok-values_if_wide.ensures in
    record {
      count = ap length pushed ∙ length-append c.loop-row.rows.items (found ∷ []) ∙ ap (λ m. m + 1) c.loop-row.invariant.count;
      each = subst (λ items. AreValuesOfFirst p n (k + 1) rows (map seen items)) (sym pushed)
          (subst (AreValuesOfFirst p n (k + 1) rows) (sym (map-append seen c.loop-row.rows.items (found ∷ [])))
          (values-next p n k rows (map seen c.loop-row.rows.items) (seen found)
          (length-map c.loop-row.rows.items seen ∙ c.loop-row.invariant.count)
          (some-as (λ values. map number values.items) found (AreValues p n (slice_index_or rows k [])) here)
          c.loop-row.invariant.each));
    }
