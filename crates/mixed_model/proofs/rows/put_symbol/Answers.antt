use Rattle.std.proofs.Common.{◌≡◌, None, get_or, sym, subst}
use Rattle.mixed_model.specs.Rows.{PutsSymbol, StandsAt, FitsBetween, entry_in}
use Rattle.mixed_model.proofs.RowLaws.{place_takes_symbol, gap_takes_symbol}
use Rattle.mixed_model.proofs.rows.put_symbol.Goals as goal

pub returns-else-entry-clause-put : goal.returns-else-entry-clause-put
returns-else-entry-clause-put g c =
    let row = c.args.row.now.items in
    place_takes_symbol g.F.Field.modulus row c.in-Ok.place c.args.column _ c.requires.row
    (subst (λ row. StandsAt row c.in-Ok.place c.args.column) c.deref.ensures.value c.in-Ok.ensures)
    (subst (λ entry. entry ≡ get_or row c.in-Ok.place entry) (sym c.entry.view_is) c.index-entry.ensures)

pub returns-in_ok-put_entry-in-Err-clause-put : goal.returns-in_ok-put_entry-in-Err-clause-put
returns-in_ok-put_entry-in-Err-clause-put g c =
    let row = c.args.row.now.items in
    subst (PutsSymbol g.F.Field.modulus c.args.column row) (sym c.in_ok-put_entry-in-Err.ensures.items)
    (gap_takes_symbol g.F.Field.modulus row c.in-Err.place c.args.column c.requires.row
    (subst (λ row. entry_in row c.args.column ≡ None) c.deref.ensures.value c.in-Err.ensures.0)
    (subst (λ row. FitsBetween row c.in-Err.place c.args.column) c.deref.ensures.value c.in-Err.ensures.1))
