use Rattle.std.proofs.Common.{◌≡◌, ◌+◌, ◌%◌, length, map, sym, subst, ◌∙◌}
use Rattle.cert_text.specs.Contents.{numbered, numbered_rows}
use Rattle.cert_text.specs.Ranges.{AreEntries}
use Rattle.cert_checker.specs.Gathering.{IsAddedRow, IsZeroRow}
use Rattle.cert_checker.proofs.NumberedRows.{entry_columns, entry_rising}
use Rattle.cert_checker.proofs.ProductLaws.{nothing-left, left-nothing}
use Rattle.cert_checker.proofs.products.is_combination.Goals as goal

pub gather-requires-clause-rising : goal.gather-requires-clause-rising
gather-requires-clause-rising g c = entry_rising g.F.Field.number g.F.Field.modulus (length c.args.matrix.now) c.args.coefficients.now c.requires.coefficients

pub gather-requires-clause-rows : goal.gather-requires-clause-rows
gather-requires-clause-rows g c = entry_columns g.F.Field.number g.F.Field.modulus (length c.args.matrix.now) c.args.coefficients.now c.requires.coefficients

pub add_entries-requires-clause-rising : goal.add_entries-requires-clause-rising
add_entries-requires-clause-rising g c = entry_rising g.F.Field.number g.F.Field.modulus (length c.args.row.now) c.args.entries.now c.requires.entries

pub add_entries-requires-clause-columns : goal.add_entries-requires-clause-columns
add_entries-requires-clause-columns g c =
    let number = g.F.Field.number in
    let p = g.F.Field.modulus in
    entry_columns number p (length c.gather.new.row) c.args.entries.now
    (subst (λ n. AreEntries p n (numbered number c.args.entries.now)) (sym c.gather.auto.row) c.requires.entries)

pub returns-clause-answer : goal.returns-clause-answer
returns-clause-answer g c =
    let number = g.F.Field.number in
    let p = g.F.Field.modulus in
    let n = length c.args.row.now in
    let f = number c.neg.result in
    let entries = numbered number c.args.entries.now in
    let sum = map number c.gather.new.row in
    let less = map number c.add_entries.new.row in
    let minus : (1 + f) % p ≡ 0 = subst (λ one. (one + f) % p ≡ 0) c.one.ensures c.neg.ensures.negative in
    let added : IsAddedRow p n f entries sum less = subst (λ m. IsAddedRow p m f entries sum less) c.gather.auto.row c.add_entries.ensures in
    let long : length c.add_entries.new.row ≡ n = c.add_entries.auto.row ∙ c.gather.auto.row in (
      λ h. nothing-left p (length c.args.matrix.now) n f minus (numbered number c.args.coefficients.now)
          (numbered_rows number c.args.matrix.now) entries
          (map number c.args.row.now) sum less c.requires.zero c.gather.ensures added
          (subst (λ m. IsZeroRow p m less) long (c.is_zero_row.ensures.0 h)),
      λ is. c.is_zero_row.ensures.1 (subst (λ m. IsZeroRow p m less) (sym long)
          (left-nothing p (length c.args.matrix.now) n f minus (numbered number c.args.coefficients.now)
          (numbered_rows number c.args.matrix.now) entries
          (map number c.args.row.now) sum less c.requires.zero c.gather.ensures added is)),
    )

pub returns-clause-zero : goal.returns-clause-zero
returns-clause-zero g c h =
    let long : length c.add_entries.new.row ≡ length c.args.row.now = c.add_entries.auto.row ∙ c.gather.auto.row in
    subst (λ m. IsZeroRow g.F.Field.modulus m (map g.F.Field.number c.add_entries.new.row)) long (c.is_zero_row.ensures.0 h)
