use Rattle.std.proofs.Common.{◌-◌}
use Rattle.linear_algebra.specs.Parts.{without_row}
use Rattle.linear_algebra_laws.proofs.RowRemoval.{without_row-removed, removed-combined}
use Rattle.linear_algebra_laws.proofs.removal_laws.rank_of_a_set_stays_without_a_combined_row.Goals as goal

pub returns : goal.returns
returns c p prime a m n X e r s y el =
    removed-combined p prime m (m - 1) n a (without_row e a) e (without_row-removed p m n a e el) X r s y
