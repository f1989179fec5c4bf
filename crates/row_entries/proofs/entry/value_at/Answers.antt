use Rattle.std.proofs.Common.{◌∙◌, ap, sym, arith}
use Rattle.std.proofs.lemmas.List.{length-map}
use Rattle.row_entries.specs.declared.entry.Entry.{Entry}
use Rattle.row_entries.specs.Rows.{Item, items}
use Rattle.row_entries.proofs.RowLaws.{at-here, at-absent, here-is}
use Rattle.row_entries.proofs.entry.value_at.Goals as goal
use Rattle.row_entries.proofs.entry.value_at.Goals.{else-place-entries-via-then-place-entries+else-entries-place, else-place-entries-via-else-place-entries}

pub returns-then-entries-place : goal.returns-then-entries-place
returns-then-entries-place g c =
    let f : Entry g.row.F.Denot → Item = λ e. record { column = e.column; number = g.F.Field.number e.value } in
    let es = c.args.entries.now in
    let i = c.place_from-place.result in
    at-here 0 (items g.F.Field.number es) c.args.column i _ c.requires (omega (arith, length-map es f, c.if-place-entries.true))
    (ap (λ (x : Item). x.column) (here-is f es c.requires i c.index-entries-place.result c.if-place-entries.true)
    ∙ c.if-entries-place.true)
    (sym (ap (λ (x : Item). x.number) (here-is f es c.requires i c.index-entries-place-then-entries-place.result
    c.if-place-entries.true)))

pub returns-else-place-entries : goal.returns-else-place-entries
returns-else-place-entries g c =
    let f : Entry g.row.F.Denot → Item = λ e. record { column = e.column; number = g.F.Field.number e.value } in
    let es = c.args.entries.now in
    let i = c.place_from-place.result in
    c.zero.ensures
    ∙ sym (at-absent 0 (items g.F.Field.number es) c.args.column i c.requires c.place_from-place.ensures
    (λ l q. elim c.else-place-entries.branch [
      | else-place-entries-via-then-place-entries+else-entries-place w ↦ w.if-entries-place.false
          (sym (ap (λ (x : Item). x.column) (here-is f es c.requires i w.index-entries-place.result w.if-place-entries.true)) ∙ q)
      | else-place-entries-via-else-place-entries w ↦ absurd (omega (arith, w.if-place-entries.false, l, length-map es f))
    ]))
