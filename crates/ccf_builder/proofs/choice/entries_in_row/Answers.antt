use Rattle.std.proofs.Common.{arith}
use Rattle.std.proofs.lemmas.List.{length-map}
use Rattle.row_entries.specs.declared.entry.Entry.{Entry}
use Rattle.row_entries.specs.Rows.{Item, items}
use Rattle.row_entries.proofs.RowLaws.{few_before}
use Rattle.ccf_builder.proofs.choice.entries_in_row.Goals as goal

pub returns : goal.returns
returns g c =
    let entries = c.row.result.now in
    let item : Entry g.row.F.Denot → Item = λ entry. record { column = entry.column; number = g.F.Field.number entry.value } in
    omega (
      arith,
      few_before (items g.F.Field.number entries) c.args.q.now.width c.row.ensures.row.rising c.row.ensures.row.narrow,
      length-map entries item,
      c.is_matrix.ensures.narrow,
    )
