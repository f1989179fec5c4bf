use Rattle.linear_algebra_laws.proofs.Transposes.{combined_row-stays, stays-combined_row}
use Rattle.linear_algebra_laws.proofs.removal_laws.rank_stays_without_a_combined_row.Goals as goal

pub returns : goal.returns
returns c p prime a m n e r s el R S =
    (stays-combined_row p prime m n a e el r s R S, combined_row-stays p prime m n a e el r s R S)
