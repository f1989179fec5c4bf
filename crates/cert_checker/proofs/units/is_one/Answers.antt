use Rattle.std.proofs.Common.{◌≡◌, ◌+◌, drop, refl, ap, sym, ◌∙◌, arith}
use Rattle.cert_text.specs.Contents.{numbered}
use Rattle.cert_text.specs.Readings.{entry_at}
use Rattle.residue_theory.proofs.SetLaws.{eqb_from, eqb_true}
use Rattle.cert_checker.proofs.EntrySteps.{entry-here, entry-none, entry-other}
use Rattle.cert_checker.proofs.NumberedRows.{entry_count, named, next_entry}
use Rattle.cert_checker.proofs.units.is_one.Goals as goal

pub loop-entry-init : goal.loop-entry-init
loop-entry-init g c = refl

pub loop-entry-preserved : goal.loop-entry-preserved
loop-entry-preserved g c =
    let number = g.F.Field.number in
    let k = c.loop-entry.entry-index in
    let entry = c.entry-item.result in
    c.loop-entry.invariant
    ∙ ap (λ es. entry_at es c.args.column) (next_entry number c.args.row.now k entry c.loop-entry-test.true c.entry-item.is)
    ∙ entry-other (named number entry) (drop (k + 1) (numbered number c.args.row.now)) c.args.column c.if-entry-column.false

pub returns-then-entry-column : goal.returns-then-entry-column
returns-then-entry-column g c =
    let number = g.F.Field.number in
    let k = c.loop-entry.entry-index in
    let entry = c.entry-item.result in
    let at : entry_at (numbered number c.args.row.now) c.args.column ≡ number entry.1 =
    c.loop-entry.invariant
    ∙ ap (λ es. entry_at es c.args.column) (next_entry number c.args.row.now k entry c.loop-entry-test.true c.entry-item.is)
    ∙ entry-here (named number entry) (drop (k + 1) (numbered number c.args.row.now)) c.args.column c.if-entry-column.true in (
      λ h. at ∙ sym c.value.ensures.number ∙ eqb_true c.value.result 1 h,
      λ one. eqb_from c.value.result 1 (c.value.ensures.number ∙ sym at ∙ one),
    )

pub returns : goal.returns
returns g c =
    let number = g.F.Field.number in
    let printed = numbered number c.args.row.now in (
      λ f. absurd (cc),
      λ one.
          let none : entry_at printed c.args.column ≡ 0 = c.loop-entry.invariant
          ∙ entry-none printed c.loop-entry.entry-index c.args.column
          (omega (arith, c.loop-entry-test.false, entry_count number c.args.row.now)) in
          absurd (omega (arith, one, none)),
    )
