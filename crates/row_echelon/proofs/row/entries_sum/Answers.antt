use Rattle.std.proofs.Common.{◌<◌, ◌≡◌, ◌+◌, ◌*◌, ◌%◌, ℕ, refl, ap, sym, subst, ◌∙◌, arith, length, map, take, slice_index, List}
use Rattle.std.proofs.lemmas.List.{get_or-map, length-map, take_all}
use Rattle.residue_theory.specs.Sums.{sum_below}
use Rattle.row_entries.specs.Rows.{Item, items, number_at}
use Rattle.row_echelon.proofs.EntrySums.{item_count, entry-taken, none-summed, same-made, sum-step}
use Rattle.row_echelon.proofs.row.entries_sum.Goals as goal

pub loop-entry-init : goal.loop-entry-init
loop-entry-init g c =
    none-summed g.F.Field.modulus (length c.args.x.now) (slice_index (map g.F.Field.number c.args.x.now)) _ c.zero-sum.ensures

pub loop-entry-preserved : goal.loop-entry-preserved
loop-entry-preserved g c =
    let number = g.F.Field.number in
    let p = g.F.Field.modulus in
    let k = c.loop-entry.entry-index in
    let entry = c.entry-item.result in
    let xs : List Item = items number c.args.entries.now in
    let x : ℕ → ℕ = slice_index (map number c.args.x.now) in
    let low : entry.column < length c.args.x.now =
    subst (λ e. e.column < length c.args.x.now) (sym c.entry-item.is) (c.requires k entry c.loop-entry-test.true) in
    let old : number c.index-x-entry.result ≡ x entry.column =
    ap number c.index-x-entry.is ∙ sym (get_or-map number c.args.x.now entry.column c.index-x-entry.result 0 low) in
    sum-step p (take k xs) (take (k + 1) xs) entry.column (number entry.value)
    (entry-taken number c.args.entries.now k entry c.loop-entry-test.true c.entry-item.is)
    (length c.args.x.now) x (number c.loop-entry.sum) (number c.plus_multiple-sum.result) low c.loop-entry.invariant
    (same-made p (number c.plus_multiple-sum.result) (number c.loop-entry.sum) (number c.index-x-entry.result) (x entry.column) (number entry.value)
    c.plus_multiple-sum.ensures old)

pub returns : goal.returns
returns g c =
    let number = g.F.Field.number in
    let xs : List Item = items number c.args.entries.now in
    subst (λ ys. number c.loop-entry.sum % g.F.Field.modulus ≡ sum_below (length c.args.x.now) (λ j. slice_index
    (map number c.args.x.now) j * number_at ys j) % g.F.Field.modulus)
    (take_all c.loop-entry.entry-index xs (omega (arith, c.loop-entry-test.false, item_count number c.args.entries.now)))
    c.loop-entry.invariant
