use Rattle.std.proofs.Common.{ap, sym, subst}
use Rattle.mixed_model.specs.Entries.{RowEntry}
use Rattle.mixed_model.specs.Rows.{PutsEntry, StandsAt, FitsBetween}
use Rattle.mixed_model.proofs.RowLaws.{PutsEntry-set, PutsEntry-insert}
use Rattle.mixed_model.proofs.rows.set_entry.Goals as goal

pub returns-in-Ok-clause-set : goal.returns-in-Ok-clause-set
returns-in-Ok-clause-set g c =
    let row = c.args.row.now.items in
    PutsEntry-set g.F.Field.modulus row c.in-Ok.place c.args.entry c.requires.row c.requires.entry
    (subst (StandsAt row c.in-Ok.place) (ap (λ (entry : RowEntry). entry.column) c.entry.view_is)
    (subst (λ row. StandsAt row c.in-Ok.place c.entry.inside.column) c.deref.ensures.value c.in-Ok.ensures))

pub returns-in_ok-put_entry-in-Err-clause-set : goal.returns-in_ok-put_entry-in-Err-clause-set
returns-in_ok-put_entry-in-Err-clause-set g c =
    let row = c.args.row.now.items in
    subst (λ new. PutsEntry g.F.Field.modulus row new c.args.entry) (sym c.in_ok-put_entry-in-Err.ensures.items)
    (PutsEntry-insert g.F.Field.modulus row c.in-Err.place c.args.entry c.requires.row c.requires.entry
    (subst (FitsBetween row c.in-Err.place) (ap (λ (entry : RowEntry). entry.column) c.entry.view_is)
    (subst (λ row. FitsBetween row c.in-Err.place c.entry.inside.column) c.deref.ensures.value c.in-Err.ensures.1)))
