use Rattle.std.proofs.lemmas.List.{map-set}
use Rattle.row_echelon.proofs.row.put_at.Goals as goal

pub returns : goal.returns
returns g c = map-set g.F.Field.number c.args.row.now c.args.column c.args.value
