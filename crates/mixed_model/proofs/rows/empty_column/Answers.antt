use Rattle.std.proofs.Common.{None, false, sym, subst}
use Rattle.mixed_model.specs.Rows.{SetsColumn, StandsAt}
use Rattle.mixed_model.proofs.Setting.{place_emptied}
use Rattle.mixed_model.proofs.rows.empty_column.Goals as goal

pub returns-in-Ok : goal.returns-in-Ok
returns-in-Ok g c =
    let row = c.args.row.now.items in
    subst (SetsColumn g.F.Field.modulus c.args.column None false row) (sym c.remove.ensures.items)
    (place_emptied g.F.Field.modulus row c.requires c.in-Ok.place c.args.column
    (subst (λ row. StandsAt row c.in-Ok.place c.args.column) c.deref.ensures.value c.in-Ok.ensures))
