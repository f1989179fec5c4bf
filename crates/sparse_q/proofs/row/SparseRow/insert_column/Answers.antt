use Rattle.std.proofs.Common.{◌≡◌, ◌+◌, ◌<◌, ◌∙◌, ap, map, length, sym, subst, arith, slice_index_or}
use Rattle.std.proofs.lemmas.List.{with_items_is, get_or-map, length-map}
use Rattle.linear_algebra.specs.Parts.{skip}
use Rattle.row_entries.specs.declared.entry.Entry.{Entry}
use Rattle.row_entries.specs.Rows.{items}
use Rattle.sparse_q.specs.Rows.{Item, Row, entry_moved, columns_raised}
use Rattle.sparse_q.specs.Storage.{IsKeptRow}
use Rattle.sparse_q.proofs.EditLaws.{raised-items, raised-kept}
use Rattle.sparse_q.proofs.row.SparseRow.insert_column.Goals as goal

pub raise-requires : goal.raise-requires
raise-requires g c k d l =
    let number = g.F.Field.number in
    let f : Entry g.row.F.Denot → Item = λ e. record { column = e.column; number = number e.value } in
    let xs = c.self.inside.entries.items in
    let low : k < length xs = omega (arith, l, ap (λ es. length es) c.deref_mut.ensures.value) in
    let at = get_or-map f xs k d (record { column = 0; number = 0 }) low in
    subst (λ es. (slice_index_or es k d).column < 8192) (sym c.deref_mut.ensures.value)
    (omega (arith, c.self.invariant.0.row.narrow k (omega (arith, low, length-map xs f)), c.self.invariant.0.few, ap (λ (x : Item). x.column) at))

pub invariant_of-self : goal.invariant_of-self
invariant_of-self g c =
    let number = g.F.Field.number in
    let xs = c.self.inside.entries.items in
    let room = subst (λ (r : Row). r.width < r.room) (sym c.self.view_is) c.requires.room in
    let few = subst (λ (r : Row). r.width < 8192) (sym c.self.view_is) c.requires.few in
    let is : c.raise.new.entries ≡ map (entry_moved (skip c.args.at)) xs =
    c.raise.ensures ∙ ap (map (entry_moved (skip c.args.at))) c.deref_mut.ensures.value in (
      subst (λ es. IsKeptRow g.F.Field.modulus (c.self.inside.width + 1) c.self.inside.room (items number es))
          (sym (with_items_is c.self.inside.entries c.raise.new.entries
          (ap (λ es. length es) is ∙ length-map xs (entry_moved (skip c.args.at)) ∙ sym c.self.inside.entries.ok.0)))
          (raised-kept number g.F.Field.modulus c.self.inside.width c.self.inside.room c.args.at xs c.raise.new.entries
          c.self.invariant.0 is room few),
      c.self.invariant.1,
    )

pub returns : goal.returns
returns g c =
    let number = g.F.Field.number in
    let xs = c.self.inside.entries.items in
    let is : c.raise.new.entries ≡ map (entry_moved (skip c.args.at)) xs =
    c.raise.ensures ∙ ap (map (entry_moved (skip c.args.at))) c.deref_mut.ensures.value in
    let now = with_items_is c.self.inside.entries c.raise.new.entries
    (ap (λ es. length es) is ∙ length-map xs (entry_moved (skip c.args.at)) ∙ sym c.self.inside.entries.ok.0) in
    ap (λ ys. record { width = c.self.inside.width + 1; room = c.self.inside.room; items = ys })
    (ap (items number) now ∙ raised-items number g.F.Field.modulus c.self.inside.width c.self.inside.room c.args.at xs
    c.raise.new.entries c.self.invariant.0 is)
    ∙ ap (λ (r : Row). record { width = r.width + 1; room = r.room; items = columns_raised c.args.at r.items }) c.self.view_is
