use Rattle.std.proofs.Common.{◌+◌}
use Rattle.linear_algebra_laws.proofs.RowRemoval.{last_row-removed, removed-at_most}
use Rattle.linear_algebra_laws.proofs.removal_laws.one_more_row_adds_at_most_one.Goals as goal

pub returns : goal.returns
returns c p prime a m n X r s R S =
    removed-at_most p prime (m + 1) m n a a m (last_row-removed p m n a) X s r S R
