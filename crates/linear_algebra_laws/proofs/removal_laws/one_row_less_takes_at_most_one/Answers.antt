use Rattle.std.proofs.Common.{◌-◌}
use Rattle.linear_algebra.specs.Parts.{without_row}
use Rattle.linear_algebra_laws.proofs.RowRemoval.{without_row-removed, removed-at_most}
use Rattle.linear_algebra_laws.proofs.removal_laws.one_row_less_takes_at_most_one.Goals as goal

pub returns : goal.returns
returns c p prime a m n X e r s el =
    removed-at_most p prime m (m - 1) n a (without_row e a) e (without_row-removed p m n a e el) X r s
