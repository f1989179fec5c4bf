use Rattle.std.proofs.Common.{◌∙◌, ◌++◌, [], ◌∷◌, map, ap, sym}
use Rattle.std.proofs.lemmas.List.{map-append}
use Rattle.row_entries.specs.Rows.{items}
use Rattle.row_entries.specs.Tables.{numbers_of}
use Rattle.row_entries.proofs.TableLaws.{numbers-next}
use Rattle.row_entries.proofs.matrix.values_of.Goals as goal

pub loop-col-preserved : goal.loop-col-preserved
loop-col-preserved g c =
    let xs = items g.F.Field.number c.args.row.now in
    ap (map g.F.Field.number) c.in_ok-push.ensures.items
    ∙ map-append g.F.Field.number c.loop-col.values.items (c.value_at.result ∷ [])
    ∙ ap (λ ns. ns ++ g.F.Field.number c.value_at.result ∷ []) c.loop-col.invariant
    ∙ ap (λ n. numbers_of c.loop-col.col xs ++ n ∷ []) c.value_at.ensures
    ∙ sym (numbers-next xs c.loop-col.col)
