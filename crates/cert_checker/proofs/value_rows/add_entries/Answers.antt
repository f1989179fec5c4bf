use Rattle.std.proofs.Common.{◌≡◌, ℕ, ◌∷◌, ◌+◌, ◌*◌, ◌%◌, ◌<◌, refl, ap, sym, subst, ◌∙◌, drop, length, map, slice_index, arith}
use Rattle.std.proofs.lemmas.List.{get_or-map, length-map, map-set}
use Rattle.cert_text.specs.Contents.{numbered}
use Rattle.cert_text.specs.Readings.{entry_at}
use Rattle.cert_checker.proofs.EntrySteps.{IsLeft, AreKeysRising, rising-drop, left-step, left-end}
use Rattle.cert_checker.proofs.NumberedRows.{entry_count, named, next_entry, rising_entry}
use Rattle.cert_checker.proofs.value_rows.add_entries.Goals as goal

pub loop-entry-init : goal.loop-entry-init
loop-entry-init g c j low = refl

pub loop-entry-preserved : goal.loop-entry-preserved
loop-entry-preserved g c =
    let number = g.F.Field.number in
    let p = g.F.Field.modulus in
    let k = c.loop-entry.entry-index in
    let printed = numbered number c.args.entries.now in
    let entry = c.entry-item.result in
    let row = c.loop-entry.row in
    let n = length c.args.row.now in
    let factor = number c.args.factor in
    let want : ℕ → ℕ = λ j. slice_index (map number c.args.row.now) j + factor * entry_at printed j in
    let cut : drop k printed ≡ named number entry ∷ drop (k + 1) printed =
    next_entry number c.args.entries.now k entry c.loop-entry-test.true c.entry-item.is in
    let low : entry.0 < n = subst (λ (e : ℕ × g.row.F.Denot). e.0 < n) (sym c.entry-item.is) (c.requires.columns k entry c.loop-entry-test.true) in
    let old : number c.index-row-column.result ≡ slice_index (map number row) entry.0 =
    ap number c.index-row-column.is ∙ sym (get_or-map number row entry.0 c.index-row-column.result 0 (omega (arith, c.loop-entry.auto.row, low))) in
    subst (λ xs. IsLeft p n factor xs (drop (k + 1) printed) want) (sym (map-set number row entry.0 c.plus_multiple.result))
    (left-step p n factor (map number row) (named number entry) (drop (k + 1) printed) want (number c.plus_multiple.result)
    (omega (arith, length-map row number, c.loop-entry.auto.row)) low
    (subst AreKeysRising cut (rising-drop k printed (rising_entry number c.args.entries.now c.requires.rising)))
    (c.plus_multiple.ensures ∙ ap (λ z. (z + factor * number entry.1) % p) old)
    (subst (λ es. IsLeft p n factor (map number row) es want) cut c.loop-entry.invariant))

pub returns : goal.returns
returns g c =
    let number = g.F.Field.number in
    left-end g.F.Field.modulus (length c.args.row.now) (number c.args.factor) (map number c.loop-entry.row)
    (numbered number c.args.entries.now) c.loop-entry.entry-index _
    (omega (arith, c.loop-entry-test.false, entry_count number c.args.entries.now)) c.loop-entry.invariant
