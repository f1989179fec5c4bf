use Rattle.std.proofs.Common.{ℕ, ◌≡◌, ◌<◌, ◌+◌, ◌*◌, ◌%◌, arith, map, length, slice_index, ap, sym, subst, ◌∙◌}
use Rattle.row_table.specs.PutOffs.{Kept, actual}
use Rattle.row_table.proofs.PutOffLaws.{exchange-reduced, scaled_at, value-at}
use Rattle.row_table.proofs.put_off.PutOff.exchange.Goals as goal

pub returns-clause-reduced : goal.returns-clause-reduced
returns-clause-reduced g c =
    let p = g.F.Field.modulus in
    let old : Kept = c.args.self.now in
    let r = c.args.r in
    let m : ℕ = old.rows in
    let n : ℕ = old.columns in
    let unit : Kept = c.put_unit.new.self in
    let scaled : Kept = c.scale_row.new.self in
    let rows_unit : unit.rows ≡ m = c.put_unit.ensures.shape.rows_same in
    let columns_unit : unit.columns ≡ n = c.put_unit.ensures.shape.columns_same in
    let rows_scaled : scaled.rows ≡ m = c.scale_row.ensures.shape.rows_same ∙ rows_unit in
    let columns_scaled : scaled.columns ≡ n = c.scale_row.ensures.shape.columns_same ∙ columns_unit in
    let here : r < length c.column.new.column = omega (
      arith,
      c.requires.row,
      c.requires.length,
      c.column.ensures.length,
    ) in
    let inverse : (g.F.Field.number c.index-space-r.result * g.F.Field.number c.unwrap-inverse.result) % p ≡ 1 =
    rw c.unwrap-inverse.ensures at c.inv.ensures.inverse in
    exchange-reduced p m n (actual p old) (actual p unit) (actual p scaled) (actual p c.add.new.self) r c.args.j
    (g.F.Field.number c.unwrap-inverse.result)
    (λ i. actual p old i c.args.j) (λ i. slice_index (map g.F.Field.number c.negate.new.column) i) c.requires.row
    c.put_unit.ensures.put
    (ap (λ x. (x * g.F.Field.number c.unwrap-inverse.result) % p)
    (sym (value-at g.F.Field.number c.column.new.column r c.index-space-r.result here c.index-space-r.is
    ∙ c.column.ensures.entries r (omega (arith, c.requires.row, c.requires.length)))) ∙ inverse)
    (scaled_at p m n _ _ _ _ r _ rows_unit columns_unit c.scale_row.ensures.scaled)
    (λ i il. ap (λ x. (x + slice_index (map g.F.Field.number c.negate.new.column) i) % p)
    (sym (c.column.ensures.entries i (omega (arith, il, c.requires.length))))
    ∙ c.negate.ensures.negative i (omega (arith, il, c.requires.length, c.column.ensures.length)))
    (λ k kl. c.add.ensures.here k (subst (λ w. k < w) (sym columns_scaled) kl))
    (λ i k il kl ne. c.add.ensures.others i k (subst (λ w. i < w) (sym rows_scaled) il)
    (subst (λ w. k < w) (sym columns_scaled) kl) ne)
