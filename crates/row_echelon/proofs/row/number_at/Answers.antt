use Rattle.std.proofs.Common.{ap, sym, ◌∙◌}
use Rattle.std.proofs.lemmas.List.{get_or-map}
use Rattle.row_echelon.proofs.row.number_at.Goals as goal

pub returns : goal.returns
returns g c = ap g.F.Field.number c.index-row-column.is ∙ sym (get_or-map g.F.Field.number c.args.row.now c.args.column c.index-row-column.result 0 c.requires)
