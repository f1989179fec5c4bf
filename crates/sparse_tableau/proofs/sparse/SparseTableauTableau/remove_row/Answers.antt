use Rattle.std.proofs.Common.{◌≡◌, ◌≢◌, ◌-◌, ◌%◌, ◌<◌, IfSome, sym, subst, ap, ◌∙◌, arith}
use Rattle.std.proofs.Math.Nat.{zero-mod}
use Rattle.sparse_q.specs.Tables.{sparse_rows, number_in}
use Rattle.row_transform.specs.Edits.{Room}
use Rattle.row_transform.specs.Entries.{IsColumnListedOut, IsRowListedAs}
use Rattle.row_transform.proofs.EntryEdits.{sizes-joined}
use Rattle.sparse_tableau.specs.Leaves.{IsChosen}
use Rattle.sparse_tableau.specs.Sparse.{Sparse}
use Rattle.sparse_tableau.proofs.RoomLaws.{room-kept, rooms-joined}
use Rattle.sparse_tableau.proofs.RowLeaves.{chosen-some, row-left, row-left-state, row-left-none, row-left-entries, row-left-numbers}
use Rattle.sparse_tableau.proofs.sparse.SparseTableauTableau.remove_row.Goals as goal

pub unwrap-row-requires : goal.unwrap-row-requires
unwrap-row-requires g c =
    let inside = c.self.inside in
    let kept = c.self.invariant.0 in
    let el : c.args.at < sparse_rows inside.transform.p = subst (λ (t : Sparse). c.args.at < sparse_rows t.p) (sym c.self.view_is) c.requires.at in
    chosen-some g.F.Field.modulus g.met.F.Field.prime c.some_row_of_s_has_an_entry.ensures inside.transform.s
    (λ i j. number_in inside.v j i) (sparse_rows inside.transform.p) c.args.at c.choose_row.result el kept.s_size.rows_are
    kept.tableau.inverse c.choose_row.ensures.none

pub clear-requires-clause-entry : goal.clear-requires-clause-entry
clear-requires-clause-entry g c =
    let modulus = g.F.Field.modulus in
    let inside = c.self.inside in
    let chosen : IsChosen modulus inside.transform.s inside.base c.args.at c.unwrap-row.result =
    subst (λ o. IfSome o (IsChosen modulus inside.transform.s inside.base c.args.at)) c.unwrap-row.ensures c.choose_row.ensures.chosen in
    λ z. chosen.entry (ap (λ y. y % modulus) z ∙ zero-mod modulus)

pub invariant_of-self : goal.invariant_of-self
invariant_of-self g c =
    let modulus = g.F.Field.modulus in
    let prime = g.met.F.Field.prime in
    let inside = c.self.inside in
    let room : Room = record { rows = inside.row_room; columns = inside.column_room } in
    let q = inside.columns in
    let p = inside.transform.p in
    let s = inside.transform.s in
    let v = inside.v in
    let base = inside.base in
    let e = c.args.at in
    let k = c.unwrap-row.result in
    let kept = c.self.invariant.0 in
    let el : e < sparse_rows p = subst (λ (t : Sparse). e < sparse_rows t.p) (sym c.self.view_is) c.requires.at in
    let chosen : IsChosen modulus s base e k = subst (λ o. IfSome o (IsChosen modulus s base e)) c.unwrap-row.ensures c.choose_row.ensures.chosen in
    let kl : k < sparse_rows p = omega (arith, chosen.below, kept.s_size.rows_are) in
    let some : number_in s k e % modulus ≢ 0 = chosen.entry in
    let last : c.rows-rows.result - 1 ≡ sparse_rows p - 1 = ap (λ l. l - 1) c.rows-rows.ensures.rows in
    let a = inside.entries.bits in
    let a1 = c.clear.new.entries.bits in
    let an = c.list_as.new.self.bits in
    let b = inside.u_entries.bits in
    let b1 = c.remove_column-2.new.self.bits in
    let bn = c.list_as-2.new.self.bits in (
      row-left modulus prime q p s v base room kept e k el kl some c.clear.new.self.p c.clear.new.self.s c.remove_column.new.self
          c.swap_remove.new.m c.take_line_out.new.m c.take_line_out-2.new.m c.free_row-told.new.self c.swap_remove_row.new.self
          c.free_row-told.result c.clear.ensures.p.size c.clear.ensures.s.size c.clear.ensures.p.reduced c.clear.ensures.s.reduced
          c.free_row-told.ensures.bare c.free_row-told.ensures.none c.free_row-told.ensures.dropped c.free_row-told.ensures.rows
          c.free_row-told.ensures.columns c.remove_column.ensures c.swap_remove.ensures c.take_line_out.ensures c.take_line_out-2.ensures
          c.swap_remove_row.ensures
          c.bases_leave_rows_in_any_order.ensures c.last_rows_take_places.ensures c.pivots_in_s_clear_a_column.ensures
          c.pivots_in_s_keep_other_rows.ensures c.rows_leave_in_any_order.ensures,
      row-left-entries modulus prime q p s v base room kept e k el kl some c.clear.new.self.p c.clear.new.self.s c.remove_column.new.self
          c.swap_remove.new.m c.take_line_out.new.m c.take_line_out-2.new.m c.free_row-told.new.self c.swap_remove_row.new.self
          c.free_row-told.result c.clear.ensures.p.size c.clear.ensures.s.size c.clear.ensures.p.reduced c.clear.ensures.s.reduced
          c.free_row-told.ensures.bare c.free_row-told.ensures.none c.free_row-told.ensures.dropped c.free_row-told.ensures.rows
          c.free_row-told.ensures.columns c.remove_column.ensures c.swap_remove.ensures c.take_line_out.ensures c.take_line_out-2.ensures
          c.swap_remove_row.ensures
          a1 an c.clear.ensures.listed
          (subst (λ l. IsRowListedAs p.width a1 an l k) last
          (subst (λ w. IsRowListedAs w a1 an (c.rows-rows.result - 1) k) c.cols-columns.ensures.cols c.list_as.ensures)),
      row-left-numbers modulus prime q p s v base room kept e k el kl some c.clear.new.self.p c.clear.new.self.s c.remove_column.new.self
          c.swap_remove.new.m c.take_line_out.new.m c.take_line_out-2.new.m c.free_row-told.new.self c.swap_remove_row.new.self
          c.free_row-told.result c.clear.ensures.p.size c.clear.ensures.s.size c.clear.ensures.p.reduced c.clear.ensures.s.reduced
          c.free_row-told.ensures.bare c.free_row-told.ensures.none c.free_row-told.ensures.dropped c.free_row-told.ensures.rows
          c.free_row-told.ensures.columns c.remove_column.ensures c.swap_remove.ensures c.take_line_out.ensures c.take_line_out-2.ensures
          c.swap_remove_row.ensures
          b b1 bn c.self.invariant.2
          (subst (λ w. IsColumnListedOut w b b1 e) c.rows-rows.ensures.rows c.remove_column-2.ensures)
          (subst (λ l. IsRowListedAs l b1 bn l k) last c.list_as-2.ensures),
      room-kept q p s v c.remove_column.new.self c.swap_remove.new.m c.take_line_out.new.m c.take_line_out-2.new.m base
          c.swap_remove_row.new.self room a b an bn
          (record { row_room = c.remove_column.ensures.row_room; column_room = c.remove_column.ensures.column_room })
          (rooms-joined p c.clear.new.self.p c.swap_remove.new.m c.clear.ensures.p.room c.swap_remove.ensures.room)
          (rooms-joined s c.clear.new.self.s c.take_line_out.new.m c.clear.ensures.s.room c.take_line_out.ensures.room)
          c.take_line_out-2.ensures.room
          (c.swap_remove_row.ensures.counts.row_room ∙ c.free_row-told.ensures.counts.row_room)
          (c.swap_remove_row.ensures.counts.column_room ∙ c.free_row-told.ensures.counts.column_room)
          (sizes-joined a a1 an c.clear.ensures.bits c.list_as.ensures.size)
          (sizes-joined b b1 bn c.remove_column-2.ensures.size c.list_as-2.ensures.size) c.self.invariant.3,
    )

pub returns-clause-row : goal.returns-clause-row
returns-clause-row g c =
    let modulus = g.F.Field.modulus in
    let prime = g.met.F.Field.prime in
    let inside = c.self.inside in
    let room : Room = record { rows = inside.row_room; columns = inside.column_room } in
    let q = inside.columns in
    let p = inside.transform.p in
    let s = inside.transform.s in
    let v = inside.v in
    let base = inside.base in
    let e = c.args.at in
    let k = c.unwrap-row.result in
    let kept = c.self.invariant.0 in
    let el : e < sparse_rows p = subst (λ (t : Sparse). e < sparse_rows t.p) (sym c.self.view_is) c.requires.at in
    let chosen : IsChosen modulus s base e k = subst (λ o. IfSome o (IsChosen modulus s base e)) c.unwrap-row.ensures c.choose_row.ensures.chosen in
    let kl : k < sparse_rows p = omega (arith, chosen.below, kept.s_size.rows_are) in
    let some : number_in s k e % modulus ≢ 0 = chosen.entry in
    rw (← c.self.view_is)
    (row-left-state modulus prime q p s v base room kept e k el kl some c.clear.new.self.p c.clear.new.self.s c.remove_column.new.self
    c.swap_remove.new.m c.take_line_out.new.m c.take_line_out-2.new.m c.free_row-told.new.self c.swap_remove_row.new.self
    c.free_row-told.result c.clear.ensures.p.size c.clear.ensures.s.size c.clear.ensures.p.reduced c.clear.ensures.s.reduced
    c.free_row-told.ensures.bare c.free_row-told.ensures.none c.free_row-told.ensures.dropped c.free_row-told.ensures.rows
    c.free_row-told.ensures.columns c.remove_column.ensures c.swap_remove.ensures c.take_line_out.ensures c.take_line_out-2.ensures
    c.swap_remove_row.ensures
    c.free_row-told.ensures.below c.free_row-told.ensures.member)

pub returns-clause-none : goal.returns-clause-none
returns-clause-none g c =
    let modulus = g.F.Field.modulus in
    let prime = g.met.F.Field.prime in
    let inside = c.self.inside in
    let room : Room = record { rows = inside.row_room; columns = inside.column_room } in
    let q = inside.columns in
    let p = inside.transform.p in
    let s = inside.transform.s in
    let v = inside.v in
    let base = inside.base in
    let e = c.args.at in
    let k = c.unwrap-row.result in
    let kept = c.self.invariant.0 in
    let el : e < sparse_rows p = subst (λ (t : Sparse). e < sparse_rows t.p) (sym c.self.view_is) c.requires.at in
    let chosen : IsChosen modulus s base e k = subst (λ o. IfSome o (IsChosen modulus s base e)) c.unwrap-row.ensures c.choose_row.ensures.chosen in
    let kl : k < sparse_rows p = omega (arith, chosen.below, kept.s_size.rows_are) in
    let some : number_in s k e % modulus ≢ 0 = chosen.entry in
    rw (← c.self.view_is)
    (row-left-none modulus prime q p s v base room kept e k el kl some c.clear.new.self.p c.clear.new.self.s c.remove_column.new.self
    c.swap_remove.new.m c.take_line_out.new.m c.take_line_out-2.new.m c.free_row-told.new.self c.swap_remove_row.new.self
    c.free_row-told.result c.clear.ensures.p.size c.clear.ensures.s.size c.clear.ensures.p.reduced c.clear.ensures.s.reduced
    c.free_row-told.ensures.bare c.free_row-told.ensures.none c.free_row-told.ensures.dropped c.free_row-told.ensures.rows
    c.free_row-told.ensures.columns c.remove_column.ensures c.swap_remove.ensures c.take_line_out.ensures c.take_line_out-2.ensures
    c.swap_remove_row.ensures
    c.bases_stay_independent_without_a_row.ensures c.free_row-told.ensures.below c.free_row-told.ensures.member
    c.free_row-told.ensures.at_row chosen.preferred)
