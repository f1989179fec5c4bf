use Rattle.std.proofs.Common.{◌-◌, arith}
use Rattle.linear_algebra.specs.Parts.{without_row}
use Rattle.linear_algebra_laws.proofs.RowRemoval.{without_row-removed, removed-at_most, removed-falls, falls-combines}
use Rattle.linear_algebra_laws.proofs.removal_laws.rank_falls_without_row.Goals as goal

pub returns : goal.returns
returns c p prime a m n X e r s el R S = (
  λ q. falls-combines p prime m (m - 1) n a (without_row e a) e (without_row-removed p m n a e el) X r s R S (omega arith),
  λ comb. omega (
    arith,
    removed-falls p prime m (m - 1) n a (without_row e a) e (without_row-removed p m n a e el) X r s R S comb,
    (removed-at_most p prime m (m - 1) n a (without_row e a) e (without_row-removed p m n a e el) X r s R S).1,
  ),
)
