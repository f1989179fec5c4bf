use Rattle.std.proofs.Common.{◌-◌, ◌<◌, arith}
use Rattle.linear_algebra.specs.Parts.{without_row}
use Rattle.linear_algebra_laws.proofs.RowRemoval.{without_row-removed, removed-stays, removed-falls}
use Rattle.linear_algebra_laws.proofs.removal_laws.rank_stays_without_row.Goals as goal

pub returns : goal.returns
returns c p prime a m n X e r s el R S = (
  λ q comb. (let less : s < r = removed-falls p prime m (m - 1) n a (without_row e a) e (without_row-removed p m n a e el) X r s R S comb in omega arith),
  removed-stays p prime m (m - 1) n a (without_row e a) e (without_row-removed p m n a e el) X r s R S,
)
