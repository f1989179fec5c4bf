use Rattle.std.proofs.Common.{rules, ◌≡◌, ◌≢◌, ◌<◌, ◌∙◌, ap, cond, eqb, length, sym, subst, arith}
use Rattle.std.specs.List.{remove}
use Rattle.std.proofs.lemmas.List.{get_or-map}
use Rattle.row_entries.specs.declared.entry.Entry.{Entry}
use Rattle.row_entries.specs.Rows.{items}
use Rattle.sparse_q.specs.Rows.{Item, Row, IsPlaceFrom, number_at, item_or}
use Rattle.sparse_q.proofs.EditLaws.{removed-kept, removed-numbers, none-stands}
use Rattle.sparse_q.proofs.row.SparseRow.take_out.Goals.{else-place-len-via-then-place-len+else-index-column, else-place-len-via-else-place-len}
use Rattle.sparse_q.proofs.row.SparseRow.take_out.Goals as goal

pub invariant_of-self : goal.invariant_of-self
invariant_of-self g c =
    let number = g.F.Field.number in
    let f : Entry g.row.F.Denot → Item = λ e. record { column = e.column; number = number e.value } in
    let xs = c.self.inside.entries.items in
    let low : c.place_from-place.result < length xs = omega (arith, c.if-place-len.true, c.len.ensures, c.self.inside.entries.ok.0) in
    let is : c.remove.new.self.items ≡ remove xs c.place_from-place.result = search rules in (
      removed-kept f g.F.Field.modulus c.self.inside.width c.self.inside.room xs c.self.invariant.0 c.place_from-place.result low
          c.remove.new.self.items is,
      omega (arith, c.self.invariant.1, c.remove.ensures.capacity),
    )

pub returns-then-index-column-clause-numbers : goal.returns-then-index-column-clause-numbers
returns-then-index-column-clause-numbers g c j =
    let number = g.F.Field.number in
    let f : Entry g.row.F.Denot → Item = λ e. record { column = e.column; number = number e.value } in
    let xs = c.self.inside.entries.items in
    let i = c.place_from-place.result in
    let low : i < length xs = omega (arith, c.if-place-len.true, c.len.ensures, c.self.inside.entries.ok.0) in
    let is : c.remove.new.self.items ≡ remove xs i = search rules in
    let at : (item_or 0 (items number xs) i).column ≡ c.args.column =
    ap (λ (x : Item). x.column) (get_or-map f xs i c.index.result.now (record { column = 0; number = 0 }) low)
    ∙ ap (λ (e : Entry g.row.F.Denot). e.column) (sym c.index.ensures) ∙ c.if-index-column.true in
    removed-numbers f g.F.Field.modulus c.self.inside.width c.self.inside.room xs c.self.invariant.0 i low
    c.remove.new.self.items is c.args.column at j
    ∙ ap (λ (r : Row). cond (eqb j c.args.column) 0 (number_at r.items j)) c.self.view_is

pub returns-else-place-len-clause-numbers : goal.returns-else-place-len-clause-numbers
returns-else-place-len-clause-numbers g c j =
    let number = g.F.Field.number in
    let f : Entry g.row.F.Denot → Item = λ e. record { column = e.column; number = number e.value } in
    let xs = c.self.inside.entries.items in
    let i = c.place_from-place.result in
    let place = subst (λ es. IsPlaceFrom (items number es) c.args.column i) c.deref.ensures.value c.place_from-place.ensures in
    let other : i < length xs → (item_or 0 (items number xs) i).column ≢ c.args.column = λ low q. elim c.else-place-len.branch [
      | else-place-len-via-then-place-len+else-index-column w ↦
          w.if-index-column.false (ap (λ (e : Entry g.row.F.Denot). e.column) w.index.ensures
          ∙ sym (ap (λ (x : Item). x.column) (get_or-map f xs i w.index.result.now (record { column = 0; number = 0 }) low)) ∙ q)
      | else-place-len-via-else-place-len w ↦ omega (arith, w.if-place-len.false, c.len.ensures, c.self.inside.entries.ok.0, low)
    ] in
    subst (λ (r : Row). number_at r.items j ≡ cond (eqb j c.args.column) 0 (number_at r.items j)) c.self.view_is
    (none-stands f g.F.Field.modulus c.self.inside.width c.self.inside.room xs c.self.invariant.0 c.args.column i place other j)
