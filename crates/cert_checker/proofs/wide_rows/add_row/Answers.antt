use Rattle.std.proofs.Common.{IfSome, length, map, sym, subst}
use Rattle.std.proofs.lemmas.List.{length-map}
use Rattle.cert_text.specs.Contents.{numbered}
use Rattle.cert_checker.specs.WideRows.{AreValues}
use Rattle.cert_checker.proofs.NumberedRows.{entry_columns, entry_rising}
use Rattle.cert_checker.proofs.WideLaws.{values-added}
use Rattle.cert_checker.proofs.wide_rows.add_row.Goals as goal

pub add_entries-requires-clause-rising : goal.add_entries-requires-clause-rising
add_entries-requires-clause-rising g c =
    entry_rising g.F.Field.number g.F.Field.modulus (length c.args.sum.now) c.args.entries.now c.requires.entries

pub add_entries-requires-clause-columns : goal.add_entries-requires-clause-columns
add_entries-requires-clause-columns g c =
    entry_columns g.F.Field.number g.F.Field.modulus (length c.args.sum.now) c.args.entries.now c.requires.entries

pub returns-in-Some : goal.returns-in-Some
returns-in-Some g c =
    let number = g.F.Field.number in
    let p = g.F.Field.modulus in
    let n = length c.args.sum.now in
    let entries = numbered number c.args.entries.now in
    let kept : AreValues p n entries (map number c.in-Some.values.items) =
    subst (λ found. IfSome found (λ values. AreValues p n entries (map number values.items))) c.in-Some.is c.requires.values in
    let are : AreValues p n entries (map number c.deref.result.now) =
    subst (λ xs. AreValues p n entries (map number xs)) (sym c.deref.ensures.value) kept in
    values-added p n (number c.args.factor) entries (map number c.deref.result.now) (map number c.args.sum.now)
    (map number c.add_scaled.new.dst) (length-map c.args.sum.now number) are c.add_scaled.ensures
