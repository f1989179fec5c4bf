use Rattle.std.proofs.Common.{rules, ◌≡◌, ◌<◌, ◌∙◌, ap, cond, eqb, length, sym, subst, vec_capacity, arith}
use Rattle.std.specs.List.{insert}
use Rattle.row_entries.specs.declared.entry.Entry.{Entry}
use Rattle.row_entries.specs.Rows.{items}
use Rattle.sparse_q.specs.Rows.{Item, Row, IsPlaceFrom, number_at}
use Rattle.sparse_q.proofs.EditLaws.{inserted-kept, inserted-numbers, inserted-room}
use Rattle.sparse_q.proofs.row.SparseRow.put_in.Goals as goal

pub invariant_of-self : goal.invariant_of-self
invariant_of-self g c =
    let number = g.F.Field.number in
    let f : Entry g.row.F.Denot → Item = λ e. record { column = e.column; number = number e.value } in
    let xs = c.self.inside.entries.items in
    let i = c.place_from-place.result in
    let x : Entry g.row.F.Denot = record { column = c.args.column; value = c.args.value } in
    let place = subst (λ es. IsPlaceFrom (items number es) c.args.column i) c.deref.ensures.value c.place_from-place.ensures in
    let none = subst (λ (r : Row). number_at r.items c.args.column ≡ 0) (sym c.self.view_is) c.requires.none in
    let narrow = subst (λ (r : Row). c.args.column < r.width) (sym c.self.view_is) c.requires.column in
    let fits : length xs < c.self.inside.room =
    inserted-room f g.F.Field.modulus c.self.inside.width c.self.inside.room xs c.self.invariant.0 i x place none narrow
    c.requires.value c.in_field.ensures in
    let roomy : length xs < vec_capacity c.self.inside.entries = omega (arith, fits, c.self.invariant.1) in
    let is : c.insert.new.self.items ≡ insert xs i x = search rules in (
      inserted-kept f g.F.Field.modulus c.self.inside.width c.self.inside.room xs c.self.invariant.0 i x place none narrow
          c.requires.value c.in_field.ensures c.insert.new.self.items is,
      omega (arith, c.self.invariant.1, c.insert.ensures.capacity),
    )

pub returns-clause-numbers : goal.returns-clause-numbers
returns-clause-numbers g c j =
    let number = g.F.Field.number in
    let f : Entry g.row.F.Denot → Item = λ e. record { column = e.column; number = number e.value } in
    let xs = c.self.inside.entries.items in
    let i = c.place_from-place.result in
    let x : Entry g.row.F.Denot = record { column = c.args.column; value = c.args.value } in
    let place = subst (λ es. IsPlaceFrom (items number es) c.args.column i) c.deref.ensures.value c.place_from-place.ensures in
    let none = subst (λ (r : Row). number_at r.items c.args.column ≡ 0) (sym c.self.view_is) c.requires.none in
    let narrow = subst (λ (r : Row). c.args.column < r.width) (sym c.self.view_is) c.requires.column in
    let fits : length xs < c.self.inside.room =
    inserted-room f g.F.Field.modulus c.self.inside.width c.self.inside.room xs c.self.invariant.0 i x place none narrow
    c.requires.value c.in_field.ensures in
    let roomy : length xs < vec_capacity c.self.inside.entries = omega (arith, fits, c.self.invariant.1) in
    let is : c.insert.new.self.items ≡ insert xs i x = search rules in
    inserted-numbers f g.F.Field.modulus c.self.inside.width c.self.inside.room xs c.self.invariant.0 i x place none narrow
    c.requires.value c.in_field.ensures c.insert.new.self.items is j
    ∙ ap (λ (r : Row). cond (eqb j c.args.column) (number c.args.value) (number_at r.items j)) c.self.view_is
