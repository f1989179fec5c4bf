use Rattle.std.proofs.Common.{◌≡◌, ◌-◌, ℕ, map, length, slice_index, subst, arith}
use Rattle.sparse_q.specs.Tables.{sparse_rows}
use Rattle.sparse_tableau.specs.Joins.{IsJoinedTo, IsLess, IsFactorTold}
use Rattle.sparse_tableau.proofs.ReduceLaws.{item-is, joined-none, joined-skip, joined-next}
use Rattle.sparse_tableau.proofs.joining.reduce.Goals.{in-Some, in_default}
use Rattle.sparse_tableau.proofs.joining.reduce.Goals as goal

pub loop-column-init : goal.loop-column-init
loop-column-init g c =
    joined-none g.F.Field.modulus (sparse_rows c.args.v.now - 1) c.args.at
    (λ j. slice_index (map g.F.Field.number c.args.items.now) j) c.args.base.now c.args.transform.now.s c.args.transform.now.p
    c.args.v.now c.args.entries.now.bits (λ i il. c.requires.zero i (omega arith))

pub loop-column-preserved : goal.loop-column-preserved
loop-column-preserved g c =
    let p = g.F.Field.modulus in
    let m = sparse_rows c.args.v.now - 1 in
    let x : ℕ → ℕ = λ j. slice_index (map g.F.Field.number c.args.items.now) j in
    let base = c.args.base.now in
    let k = c.loop-column.column in
    let old = c.loop-column in
    let inv = c.loop-column.invariant in
    elim c.match-row_of.branch [
      | in-Some w ↦
          let t = w.take_away.new.transform in
          let row = w.in-Some.row in
          let number = g.F.Field.number w.index-items-column.result in
          let is : number ≡ x k =
          item-is g.F.Field.number c.args.items.now k w.index-items-column.result w.index-items-column.is c.loop-column-test.true in
          rw (w.transform-is, w.v-is, w.entries-is)
          (joined-next p m c.args.at k x base c.args.transform.now.s old.transform.s c.args.transform.now.p old.transform.p
          c.args.v.now old.v c.args.entries.now.bits old.entries.bits inv (length c.args.items.now) row t.s t.p
          w.take_away.new.v w.take_away.new.entries.bits c.requires.base c.loop-column-test.true w.in-Some.ensures.member
          w.in-Some.ensures.at_row (omega (arith, c.requires.size.rows_fit))
          (subst (λ n. IsLess p (n - 1) row (x k) old.transform.s t.s) inv.size.rows_are
          (subst (λ y. IsLess p (sparse_rows old.v - 1) row y old.transform.s t.s) is w.take_away.ensures.s))
          (subst (λ n. IsLess p (n - 1) row (x k) old.transform.p t.p) inv.size.rows_are
          (subst (λ y. IsLess p (sparse_rows old.v - 1) row y old.transform.p t.p) is w.take_away.ensures.p))
          (subst (λ y. IsFactorTold row c.args.at y old.v w.take_away.new.v old.entries.bits w.take_away.new.entries.bits) is
          w.take_away.ensures.v))
      | in_default w ↦
          rw (w.transform-is, w.v-is, w.entries-is)
          (joined-skip p m c.args.at k x base c.args.transform.now.s old.transform.s c.args.transform.now.p old.transform.p
          c.args.v.now old.v c.args.entries.now.bits old.entries.bits inv w.in_default.ensures.none)
    ]

pub returns : goal.returns
returns g c =
    let e : c.loop-column.column ≡ length c.args.items.now =
    omega (arith, c.loop-column-test.false, c.loop-column.auto.column-end) in
    subst (λ k. IsJoinedTo g.F.Field.modulus (sparse_rows c.args.v.now - 1) c.args.at k
    (λ j. slice_index (map g.F.Field.number c.args.items.now) j) c.args.base.now c.args.transform.now.s c.loop-column.transform.s
    c.args.transform.now.p c.loop-column.transform.p c.args.v.now c.loop-column.v c.args.entries.now.bits
    c.loop-column.entries.bits) e c.loop-column.invariant
