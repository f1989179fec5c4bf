use Rattle.std.proofs.Common.{rules, ◌≡◌, ◌≤◌, ap, length, vec_capacity, arith}
use Rattle.sparse_q.specs.Rows.{Row}
use Rattle.sparse_q.proofs.RowLaws.{row-within}
use Rattle.sparse_q.proofs.row.SparseRow.fill.Goals as goal

pub returns : goal.returns
returns g c =
    let few : length c.args.entries.now ≤ c.args.self.now.width =
    row-within (λ e. record { column = e.column; number = g.F.Field.number e.value }) g.F.Field.modulus
    c.args.self.now.width c.args.entries.now c.requires in
    let fits : length c.args.entries.now ≤ vec_capacity c.clear.new.self = omega (
      arith,
      few,
      ap (λ (r : Row). r.width) c.self.view_is,
      c.self.invariant.0.room,
      c.self.invariant.1,
      c.clear.ensures.capacity,
    ) in
    let is : c.extend_from_slice.new.self.items ≡ c.args.entries.now = search rules in
    search rules
