use Rattle.std.proofs.Common.{◌≡◌, ◌+◌, ◌*◌, ◌%◌, ap, sym, subst, ◌∙◌, arith, length, map, slice_index, List}
use Rattle.std.proofs.lemmas.List.{get_or-map, map-append}
use Rattle.row_entries.specs.Rows.{Item, items}
use Rattle.row_entries.proofs.RowLaws.{item}
use Rattle.row_echelon.specs.Echelons.{AreEntriesOf}
use Rattle.row_echelon.proofs.DividedRows.{entry-left, entry-pushed}
use Rattle.row_echelon.proofs.pivot_row.entries_of.Goals as goal
use Rattle.row_echelon.proofs.pivot_row.entries_of.Goals.{then-not-is_zero+in_ok-push, else-not-is_zero}

pub loop-column-preserved : goal.loop-column-preserved
loop-column-preserved g c =
    let number = g.F.Field.number in
    let p = g.F.Field.modulus in
    let n = c.loop-column.column in
    let row = map number c.args.row.now in
    let factor = number c.args.factor in
    let xs : List Item = items number c.loop-column.entries.items in
    let read : number c.index-row-column.result ≡ slice_index row n =
    ap number c.index-row-column.is ∙ sym (get_or-map number c.args.row.now n c.index-row-column.result 0 (omega
    (arith, c.loop-column-test.true, c.loop-column.auto.column-end))) in
    elim c.if-not-is_zero.branch [
      | then-not-is_zero+in_ok-push w ↦ subst (AreEntriesOf p factor (n + 1) row)
          (sym (ap (items number) (ap (λ xs. xs.items) w.entries-is ∙ w.in_ok-push.ensures.items) ∙ map-append
          (λ e. item e.column (number e.value)) c.loop-column.entries.items _))
          (entry-pushed p factor row n xs c.loop-column.invariant (number w.mul.result) (w.mul.ensures ∙ ap (λ z. (z * factor) % p) read))
      | else-not-is_zero w ↦ subst (λ entries. AreEntriesOf p factor (n + 1) row (items number entries.items)) (sym w.entries-is)
          (entry-left p factor row n xs c.loop-column.invariant (sym read ∙ c.is_zero.ensures.0 w.if-not-is_zero.false))
    ]
