use Rattle.std.proofs.Common.{◌≡◌, ap, sym, ◌∙◌, arith, map, slice_index}
use Rattle.std.proofs.lemmas.List.{get_or-map}
use Rattle.dense_q.specs.Tables.{entry}
use Rattle.square_systems.proofs.JoinedLaws.{combined-vanishes, none-joined, one-more}
use Rattle.square_systems.proofs.solving.join_rows.Goals as goal

pub loop-i-init : goal.loop-i-init
loop-i-init g c =
    none-joined g.F.Field.modulus c.args.table.now.width (entry c.args.table.now) (slice_index (map g.F.Field.number c.args.right.now))
    c.args.echelon.now c.requires.width c.requires.empty

pub returns-then-not-branch-clause-dependent : goal.returns-then-not-branch-clause-dependent
returns-then-not-branch-clause-dependent g c _ =
    let number = g.F.Field.number in
    let table = c.args.table.now in (
      c.loop-i.i,
      omega (arith, c.loop-i-test.true, c.rows-i-end.ensures.rows),
      λ x zeros. combined-vanishes g.F.Field.modulus g.met.F.Field.prime table.width (entry table) (slice_index (map number c.args.right.now))
          c.loop-i.echelon c.loop-i.i c.loop-i.invariant (map number c.fill_row.new.row) (c.in_ok-join.ensures.combined c.if-not-branch.true)
          c.fill_row.ensures.numbers x zeros,
    )

pub loop-i-preserved : goal.loop-i-preserved
loop-i-preserved g c =
    let number = g.F.Field.number in
    let table = c.args.table.now in
    one-more g.F.Field.modulus g.met.F.Field.prime table.width (entry table) (slice_index (map number c.args.right.now))
    c.loop-i.echelon c.loop-i.i c.loop-i.invariant c.join.new.self (map number c.fill_row.new.row) (number c.index-right-i.result)
    (c.in_ok-join.ensures.joined c.if-not-branch.false) c.fill_row.ensures.numbers
    (ap number c.index-right-i.is ∙ sym (get_or-map number c.args.right.now c.loop-i.i c.index-right-i.result 0
    (omega (arith, c.loop-i-test.true, c.rows-i-end.ensures.rows, c.requires.right))))
