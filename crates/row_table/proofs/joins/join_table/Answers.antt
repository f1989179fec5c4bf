use Rattle.std.proofs.Common.{◌≡◌, ◌+◌, ◌*◌, ◌%◌, ◌<◌, ℕ, cond, ltb, subst, ◌∙◌, map, length, slice_index, arith}
use Rattle.residue_theory.specs.Sums.{sum_below}
use Rattle.row_table.specs.Layouts.{layout_places}
use Rattle.row_table.specs.PutOffs.{Kept, actual}
use Rattle.row_table.specs.TableEdits.{taken}
use Rattle.row_table.proofs.JoinLaws.{joins-told}
use Rattle.row_table.proofs.joins.join_table.Goals as goal

pub returns-clause-joins : goal.returns-clause-joins
returns-clause-joins g c d dl free =
    let p = g.F.Field.modulus in
    let old : Kept = c.args.table.now in
    let pushed : Kept = c.push_row.new.self in
    let put : Kept = c.put_row.new.table in
    let now : Kept = c.reduce_last.new.table in
    let places = layout_places c.args.places.now in
    let j = places.slot d in
    let items = map g.F.Field.number c.args.items.now in
    let n = length c.args.items.now in
    let x : ℕ → ℕ = λ k. slice_index items k in
    let m : c.rows-row.result ≡ old.rows = c.rows-row.ensures.rows in
    let jl : j < old.columns = subst (λ k. j < k) c.requires.columns (c.is_layout.ensures.placed.slot_below d dl free) in
    let jp : j < pushed.columns = omega (arith, jl, c.push_row.ensures.rows.columns_same) in
    let jq : j < put.columns = omega (arith, jp, c.put_row.ensures.shape.columns_same) in
    subst (λ r. actual p now r j % p ≡ (sum_below r (λ i. taken p n places.basic x i * actual p old i j)
    + cond (ltb d n) (x d) 0) % p) m
    (joins-told p c.rows-row.result (actual p put c.rows-row.result j) (cond (ltb d n) (x d) 0)
    (actual p now c.rows-row.result j) (taken p n places.basic x) (λ i. actual p put i j) (λ i. actual p old i j)
    (c.reduce_last.ensures.here j jq) (c.put_row.ensures.here d dl free)
    (λ i il. c.put_row.ensures.other_rows i j (omega (arith, il, m, c.push_row.ensures.rows.rows_are)) jp (λ q. omega (arith, q, il))
    ∙ c.push_row.ensures.rows.entries i j (omega (arith, il, m)) (omega (arith, il, m)) jl))
