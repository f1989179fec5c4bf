use Rattle.std.proofs.Common.{◌∙◌, ap, sym, arith}
use Rattle.std.proofs.lemmas.List.{length-map, get_or-map}
use Rattle.row_entries.specs.declared.entry.Entry.{Entry}
use Rattle.row_entries.specs.Rows.{Item, items, number_at}
use Rattle.row_entries.proofs.RowLaws.{next-none, next-least, number-here, here-is, item}
use Rattle.row_entries.proofs.entry.first_from.Goals as goal

pub returns-then-place-entries-clause-least : goal.returns-then-place-entries-clause-least
returns-then-place-entries-clause-least g c p w row =
    let f : Entry g.row.F.Denot → Item = λ e. record { column = e.column; number = g.F.Field.number e.value } in
    let es = c.args.entries.now in
    let i = c.place_from-place.result in
    next-least p w (items g.F.Field.number es) c.args.column i row c.place_from-place.ensures _
    (omega (arith, length-map es f, c.if-place-entries.true))
    (sym (ap (λ (x : Item). x.column) (get_or-map f es i c.index-entries-place.result (item w 0) c.if-place-entries.true)))

pub returns-then-place-entries-clause-value : goal.returns-then-place-entries-clause-value
returns-then-place-entries-clause-value g c =
    let f : Entry g.row.F.Denot → Item = λ e. record { column = e.column; number = g.F.Field.number e.value } in
    let es = c.args.entries.now in
    let i = c.place_from-place.result in
    ap (λ (x : Item). number_at (items g.F.Field.number es) x.column)
    (sym (here-is f es c.requires i c.index-entries-place.result c.if-place-entries.true))
    ∙ number-here (items g.F.Field.number es) i c.requires (omega (arith, length-map es f, c.if-place-entries.true))
    ∙ ap (λ (x : Item). x.number)
    (here-is f es c.requires i c.index-entries-place-then-place-entries.result c.if-place-entries.true)

pub returns-else-place-entries-clause-none : goal.returns-else-place-entries-clause-none
returns-else-place-entries-clause-none g c p w row =
    let f : Entry g.row.F.Denot → Item = λ e. record { column = e.column; number = g.F.Field.number e.value } in
    next-none p w (items g.F.Field.number c.args.entries.now) c.args.column c.place_from-place.result row
    c.place_from-place.ensures (omega (arith, length-map c.args.entries.now f, c.if-place-entries.false))
