use Rattle.std.proofs.Common.{◌<◌, ◌≡◌, ◌+◌, ◌*◌, ◌%◌, ℕ, refl, ap, sym, subst, ◌∙◌, arith, length, map, take, slice_index, List}
use Rattle.std.proofs.Math.Nat.{mod-mod}
use Rattle.std.proofs.lemmas.List.{get_or-map, length-map, map-set, take_all}
use Rattle.row_entries.specs.Rows.{Item, items}
use Rattle.row_echelon.specs.Echelons.{IsAddedTo}
use Rattle.row_echelon.proofs.EntrySums.{item_count, add-step, entry-taken, none-added}
use Rattle.row_echelon.proofs.row.add_entries.Goals as goal

pub loop-entry-init : goal.loop-entry-init
loop-entry-init g c = none-added g.F.Field.modulus (g.F.Field.number c.args.factor) (map g.F.Field.number c.args.row.now)

pub loop-entry-preserved : goal.loop-entry-preserved
loop-entry-preserved g c =
    let number = g.F.Field.number in
    let p = g.F.Field.modulus in
    let k = c.loop-entry.entry-index in
    let entry = c.entry-item.result in
    let xs : List Item = items number c.args.entries.now in
    let row = map number c.args.row.now in
    let low : entry.column < length c.args.row.now =
    subst (λ e. e.column < length c.args.row.now) (sym c.entry-item.is) (c.requires k entry c.loop-entry-test.true) in
    let old : number c.index-row-column.result ≡ slice_index (map number c.loop-entry.row) entry.column =
    ap number c.index-row-column.is ∙ sym (get_or-map number c.loop-entry.row entry.column c.index-row-column.result 0
    (omega (arith, c.loop-entry.auto.row, low))) in
    subst (IsAddedTo p (number c.args.factor) (take (k + 1) xs) row) (sym (map-set number c.loop-entry.row entry.column c.plus_multiple.result))
    (add-step p (take k xs) (take (k + 1) xs) entry.column (number entry.value)
    (entry-taken number c.args.entries.now k entry c.loop-entry-test.true c.entry-item.is)
    (number c.args.factor) row (map number c.loop-entry.row) (number c.plus_multiple.result) c.loop-entry.invariant
    (omega (arith, low, length-map c.args.row.now number))
    (made p (number c.plus_multiple.result) (number c.index-row-column.result) (slice_index (map number c.loop-entry.row) entry.column)
    (number c.args.factor * number entry.value) c.plus_multiple.ensures old))
  where
    made : (p x y z v : ℕ) → x ≡ (y + v) % p → y ≡ z → x % p ≡ (z + v) % p
    made p x y z v is same = ap (λ w. w % p) is ∙ mod-mod (y + v) p ∙ ap (λ w. (w + v) % p) same

pub returns : goal.returns
returns g c =
    let number = g.F.Field.number in
    let xs : List Item = items number c.args.entries.now in
    subst (λ ys. IsAddedTo g.F.Field.modulus (number c.args.factor) ys (map number c.args.row.now) (map number c.loop-entry.row))
    (take_all c.loop-entry.entry-index xs (omega (arith, c.loop-entry-test.false, item_count number c.args.entries.now)))
    c.loop-entry.invariant
