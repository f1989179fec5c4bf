use Rattle.std.proofs.Common.{◌≡◌, ℕ, ◌+◌, ◌%◌, ◌<◌, ap, sym, subst, ◌∙◌, drop, length, map, slice_index}
use Rattle.std.proofs.lemmas.List.{get_or-map}
use Rattle.cert_text.specs.Contents.{numbered}
use Rattle.block_solver.specs.Rows.{row_sum}
use Rattle.block_solver.proofs.Entries.{named, next_entry, sum-step}
use Rattle.block_solver.proofs.rows.row_sum.Goals as goal

pub loop-entry-preserved : goal.loop-entry-preserved
loop-entry-preserved g c =
    let number = g.F.Field.number in
    let p = g.F.Field.modulus in
    let k = c.loop-entry.entry-index in
    let printed = numbered number c.args.entries.now in
    let entry = c.entry-item.result in
    let x = map number c.args.x.now in
    let low : entry.0 < length c.args.x.now = subst (λ (e : ℕ × g.row.F.Denot). e.0 < length c.args.x.now) (sym c.entry-item.is)
    (c.requires k entry c.loop-entry-test.true) in
    let at : number c.index-x-entry.result ≡ slice_index x entry.0 =
    ap number c.index-x-entry.is ∙ sym (get_or-map number c.args.x.now entry.0 c.index-x-entry.result 0 low) in
    sum-step p (number c.loop-entry.sum) (number c.plus_multiple-sum.result) (named number entry) (drop (k + 1) printed) x
    (number c.index-x-entry.result) (row_sum printed x) at c.plus_multiple-sum.ensures
    (subst (λ es. (number c.loop-entry.sum + row_sum es x) % p ≡ row_sum printed x % p)
    (next_entry number c.args.entries.now k entry c.loop-entry-test.true c.entry-item.is) c.loop-entry.invariant)
