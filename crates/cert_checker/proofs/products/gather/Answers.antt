use Rattle.std.proofs.Common.{◌≡◌, ℕ, ◌∷◌, [], ◌+◌, ◌*◌, ◌<◌, List, Vec, Global, Option, None, IfSome, option_map, length, map, drop}
use Rattle.std.proofs.Common.{slice_index, slice_index_or, ap, sym, subst, refl, ◌∙◌, arith}
use Rattle.residue_theory.specs.Sums.{sum_below}
use Rattle.cert_text.specs.Contents.{numbered, numbered_rows}
use Rattle.cert_text.specs.Ranges.{IsPrintedMatrix}
use Rattle.cert_text.specs.Readings.{entry_at, matrix_of}
use Rattle.std.proofs.lemmas.List.{get_or-map, length-map}
use Rattle.cert_checker.specs.Gathering.{IsAddedRow}
use Rattle.cert_checker.specs.WideRows.{AreValues, AreValuesOfRows}
use Rattle.cert_checker.proofs.EntrySteps.{IsSumLeft, AreKeysRising, rising-drop, sum_left-step, sum_left-end}
use Rattle.cert_checker.proofs.NumberedRows.{entry_count, named, next_entry, rising_entry, row_is, row_within, rows_count}
use Rattle.cert_checker.proofs.WideLaws.{some-from}
use Rattle.cert_checker.proofs.products.gather.Goals as goal

pub loop-coefficient-init : goal.loop-coefficient-init
loop-coefficient-init g c j low = refl

pub add_row-requires-clause-entries : goal.add_row-requires-clause-entries
add_row-requires-clause-entries g c =
    let number = g.F.Field.number in
    let p = g.F.Field.modulus in
    let m = length c.args.matrix.now in
    let n = length c.loop-coefficient.row in
    let low : c.coefficient-item.result.0 < m = subst (λ (e : ℕ × g.row.F.Denot). e.0 < m)
    (sym c.coefficient-item.is) (c.requires.rows c.loop-coefficient.coefficient-index c.coefficient-item.result c.loop-coefficient-test.true) in
    let matrix = subst (λ k. IsPrintedMatrix p m k (numbered_rows number c.args.matrix.now)) (sym c.loop-coefficient.auto.row) c.requires.matrix in
    row_within number p m n c.args.matrix.now c.coefficient-item.result.0 c.as_slice.result.now
    c.index-matrix-i.result matrix low c.as_slice.ensures c.index-matrix-i.is

pub add_row-requires-clause-values : goal.add_row-requires-clause-values
add_row-requires-clause-values g c =
    let number = g.F.Field.number in
    let p = g.F.Field.modulus in
    let m = length c.args.matrix.now in
    let i = c.coefficient-item.result.0 in
    let low : i < m = subst (λ (e : ℕ × g.row.F.Denot). e.0 < m)
    (sym c.coefficient-item.is) (c.requires.rows c.loop-coefficient.coefficient-index c.coefficient-item.result c.loop-coefficient-test.true) in
    let k = length c.loop-coefficient.row in
    let rows = numbered_rows number c.args.matrix.now in
    let seen : Option (Vec g.row.F.Denot Global) → Option (List ℕ) = option_map (λ row. map number row.items) in
    let found = c.index-values-i.result in
    let wide = subst (λ size. AreValuesOfRows p size rows (map seen c.args.values.now)) (sym c.loop-coefficient.auto.row) c.requires.values in
    let many : length c.args.values.now ≡ m = sym (length-map c.args.values.now seen) ∙ wide.count ∙ rows_count number c.args.matrix.now in
    let at : slice_index_or (map seen c.args.values.now) i None ≡ seen found =
    get_or-map seen c.args.values.now i found None (omega (arith, low, many)) ∙ ap seen (sym c.index-values-i.is) in
    some-from (λ row. map number row.items) found (AreValues p k (numbered number c.as_slice.result.now))
    (subst (λ row. IfSome (seen found) (λ values. AreValues p k row values))
    (row_is number c.args.matrix.now i c.as_slice.result.now c.index-matrix-i.result low c.as_slice.ensures c.index-matrix-i.is)
    (subst (λ x. IfSome x (λ values. AreValues p k (slice_index_or rows i []) values)) at
    (wide.each i (omega (arith, low, rows_count number c.args.matrix.now)))))

pub loop-coefficient-preserved : goal.loop-coefficient-preserved
loop-coefficient-preserved g c =
    let number = g.F.Field.number in
    let p = g.F.Field.modulus in
    let k = c.loop-coefficient.coefficient-index in
    let printed = numbered number c.args.coefficients.now in
    let entry = c.coefficient-item.result in
    let rows = numbered_rows number c.args.matrix.now in
    let m = length c.args.matrix.now in
    let n = length c.args.row.now in
    let low : c.coefficient-item.result.0 < m = subst (λ (e : ℕ × g.row.F.Denot). e.0 < m)
    (sym c.coefficient-item.is) (c.requires.rows c.loop-coefficient.coefficient-index c.coefficient-item.result c.loop-coefficient-test.true) in
    let is : slice_index_or rows entry.0 [] ≡ numbered number c.as_slice.result.now =
    row_is number c.args.matrix.now entry.0 c.as_slice.result.now c.index-matrix-i.result low c.as_slice.ensures c.index-matrix-i.is in
    let cut : drop k printed ≡ named number entry ∷ drop (k + 1) printed =
    next_entry number c.args.coefficients.now k entry c.loop-coefficient-test.true c.coefficient-item.is in
    let want : ℕ → ℕ = λ j. slice_index (map number c.args.row.now) j + sum_below m (λ t. entry_at printed t * matrix_of rows t j) in
    sum_left-step p m n rows (numbered number c.as_slice.result.now) (map number c.loop-coefficient.row)
    (map number c.add_row.new.sum) (named number entry) (drop (k + 1) printed) want low
    (subst AreKeysRising cut (rising-drop k printed (rising_entry number c.args.coefficients.now c.requires.rising)))
    (λ j. ap (λ list. entry_at list j) (sym is))
    (subst (λ size. IsAddedRow p size (number entry.1) (numbered number c.as_slice.result.now)
    (map number c.loop-coefficient.row) (map number c.add_row.new.sum)) c.loop-coefficient.auto.row c.add_row.ensures)
    (subst (λ es. IsSumLeft p m n rows (map number c.loop-coefficient.row) es want) cut c.loop-coefficient.invariant)

pub returns : goal.returns
returns g c =
    let number = g.F.Field.number in
    sum_left-end g.F.Field.modulus (length c.args.matrix.now) (length c.args.row.now)
    (numbered_rows number c.args.matrix.now) (map number c.loop-coefficient.row)
    (numbered number c.args.coefficients.now) c.loop-coefficient.coefficient-index _
    (omega (arith, c.loop-coefficient-test.false, entry_count number c.args.coefficients.now)) c.loop-coefficient.invariant
