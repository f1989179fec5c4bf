use Rattle.std.proofs.Common.{◌≡◌, length, map, replicate, ap, sym, subst, ◌∙◌, arith}
use Rattle.std.proofs.lemmas.List.{length-map, length-replicate}
use Rattle.cert_text.specs.Contents.{numbered}
use Rattle.cert_text.specs.Ranges.{AreEntries}
use Rattle.cert_checker.specs.Gathering.{IsAddedRow}
use Rattle.cert_checker.specs.WideRows.{AreValues}
use Rattle.cert_checker.proofs.NumberedRows.{entry_columns, entry_rising}
use Rattle.cert_checker.proofs.WideLaws.{values-made}
use Rattle.cert_checker.proofs.WrittenBack.{written-back}
use Rattle.cert_checker.proofs.wide_rows.values_of.Goals as goal

pub add_entries-requires-clause-rising : goal.add_entries-requires-clause-rising
add_entries-requires-clause-rising g c = entry_rising g.F.Field.number g.F.Field.modulus c.args.columns c.args.entries.now c.requires

pub add_entries-requires-clause-columns : goal.add_entries-requires-clause-columns
add_entries-requires-clause-columns g c =
    let number = g.F.Field.number in
    let none : map number c.deref_mut.result.now ≡ replicate c.args.columns 0 = ap (map number) c.deref_mut.ensures.value ∙ c.in_ok-values.ensures in
    let long : length c.deref_mut.result.now ≡ c.args.columns =
    sym (length-map c.deref_mut.result.now number) ∙ ap length none ∙ length-replicate c.args.columns 0 in
    entry_columns number g.F.Field.modulus (length c.deref_mut.result.now) c.args.entries.now
    (subst (λ n. AreEntries g.F.Field.modulus n (numbered number c.args.entries.now)) (sym long) c.requires)

pub returns : goal.returns
returns g c =
    let number = g.F.Field.number in
    let p = g.F.Field.modulus in
    let n = c.args.columns in
    let new = c.add_entries.new.row in
    let zeros = c.deref_mut.result.now in
    let entries = numbered number c.args.entries.now in
    let none : map number zeros ≡ replicate n 0 = ap (map number) c.deref_mut.ensures.value ∙ c.in_ok-values.ensures in
    let long : length zeros ≡ n = sym (length-map zeros number) ∙ ap length none ∙ length-replicate n 0 in
    let same : length new ≡ n = c.add_entries.auto.row ∙ long in
    let written = written-back c.in_ok-values.values.len new _ (omega (arith, same, long, c.deref_mut.ensures.len)) in
    subst (λ xs. AreValues p n entries (map number xs)) (sym written)
    (values-made p n (number c.one.result) entries (map number zeros) (map number new) none c.one.ensures
    (length-map new number ∙ same)
    (subst (λ m. IsAddedRow p m (number c.one.result) entries (map number zeros) (map number new)) long c.add_entries.ensures))
