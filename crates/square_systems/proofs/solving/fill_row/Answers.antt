use Rattle.std.proofs.Common.{◌≡◌, ◌+◌, ◌*◌, ◌%◌, ap, sym, subst, ◌∙◌, arith, length, map}
use Rattle.std.proofs.lemmas.List.{length-map}
use Rattle.row_entries.specs.Rows.{EndsBefore, items, number_at}
use Rattle.row_echelon.proofs.StoredRows.{entries-within}
use Rattle.square_systems.proofs.JoinedLaws.{filled-number}
use Rattle.square_systems.proofs.solving.fill_row.Goals as goal

pub add_entries-requires : goal.add_entries-requires
add_entries-requires g c =
    let number = g.F.Field.number in
    let wide : c.args.table.now.width ≡ length c.clear.new.row = omega (arith, c.requires.width, c.clear.auto.row) in
    entries-within number (length c.clear.new.row) c.row.result.now
    (subst (EndsBefore (items number c.row.result.now)) wide c.row.ensures.row.narrow)

pub returns : goal.returns
returns g c =
    let number = g.F.Field.number in
    let p = g.F.Field.modulus in
    record {
      count = c.add_entries.ensures.count ∙ length-map c.clear.new.row number ∙ omega (arith, c.requires.width, c.clear.auto.row);
      numbers = λ j jl. c.add_entries.ensures.numbers j (omega (arith, jl, length-map c.clear.new.row number, c.requires.width, c.clear.auto.row))
          ∙ filled-number p _ (number c.one.result) (number_at (items number c.row.result.now) j) _ (c.clear.ensures j) c.one.ensures (c.row.ensures.numbers j);
    }
