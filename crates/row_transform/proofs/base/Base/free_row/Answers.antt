use Rattle.std.proofs.Common.{◌≡◌, ◌<◌, true, length, sym, subst}
use Rattle.row_transform.specs.Bases.{BaseLists, is_base, base_row, IsBaseDropped}
use Rattle.row_transform.proofs.BaseEdits.{row_freed}
use Rattle.row_transform.proofs.base.Base.free_row.Goals as goal

pub returns-clause-bare : goal.returns-clause-bare
returns-clause-bare c y l =
    let pairs = c.self.inside.pairs in
    let column = c.in_ok-column.column in
    row_freed pairs c.self.inside.takes c.leave.new.self c.args.row column c.are_one_to_one.ensures
    (subst (λ (b : BaseLists). is_base b column ≡ true) (sym c.self.view_is) c.in_ok-column.ensures.member)
    (subst (λ (b : BaseLists). base_row b column ≡ c.args.row) (sym c.self.view_is) c.in_ok-column.ensures.at_row)
    (subst (λ (b : BaseLists). IsBaseDropped (length b.rows) (is_base b) (base_row b) (is_base c.leave.new.self)
    (base_row c.leave.new.self) column) (sym c.self.view_is) c.leave.ensures.dropped)
    y (subst (λ (b : BaseLists). y < length b.rows) (sym c.self.view_is) l)
