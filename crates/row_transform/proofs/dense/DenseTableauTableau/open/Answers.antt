use Rattle.std.proofs.Common.{arith}
use Rattle.row_transform.proofs.DenseLaws.{opened-dense, opened-state, opened-listed}
use Rattle.row_transform.proofs.dense.DenseTableauTableau.open.Goals as goal

pub invariant_of-result : goal.invariant_of-result
invariant_of-result g c = (
  opened-dense g.F.Field.modulus (record { table = c.in_ok-open.field-0; base = c.in_ok-empty.field-0; row_room = 0; column_room = 0 })
      c.args.q.now c.rows.result c.cols.result c.rows.ensures.rows c.cols.ensures.cols c.in_ok-open.ensures.rows
      c.in_ok-open.ensures.columns c.in_ok-open.ensures.q
      c.in_ok-empty.ensures,
  opened-listed g.F.Field.modulus c.in_ok-open.field-0 c.args.q.now c.in_ok-of.field-0.bits c.in_ok-open.ensures.rows c.in_ok-open.ensures.columns
      c.in_ok-open.ensures.p c.in_ok-of.ensures,
  record {
    table_rows = omega arith;
    table_columns = omega arith;
    base_rows = omega arith;
    base_columns = omega arith;
    listed_rows = omega arith;
    listed_columns = omega arith;
    few = omega arith;
    narrow = omega arith;
  },
)

pub returns-clause-opened : goal.returns-clause-opened
returns-clause-opened g c =
    opened-state g.F.Field.modulus (record { table = c.in_ok-open.field-0; base = c.in_ok-empty.field-0; row_room = 0; column_room = 0 })
    c.args.q.now c.rows.result c.cols.result c.rows.ensures.rows c.cols.ensures.cols c.in_ok-open.ensures.rows
    c.in_ok-open.ensures.columns c.in_ok-open.ensures.q
    c.in_ok-empty.ensures c.in_ok-open.ensures.p c.in_ok-open.ensures.s c.in_ok-open.ensures.u
