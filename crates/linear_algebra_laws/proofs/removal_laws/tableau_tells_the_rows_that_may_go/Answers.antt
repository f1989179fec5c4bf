use Rattle.std.proofs.Common.{◌-◌}
use Rattle.linear_algebra.specs.Parts.{without_row}
use Rattle.linear_algebra_laws.proofs.RowRemoval.{without_row-removed, tableau-stays, stays-tableau}
use Rattle.linear_algebra_laws.proofs.removal_laws.tableau_tells_the_rows_that_may_go.Goals as goal

pub returns : goal.returns
returns c p prime a S U P m n B X row e r s el inv same base inside zeros R T = (
  stays-tableau p prime m (m - 1) n a (without_row e a) e (without_row-removed p m n a e el) S U P B row X inv same base inside zeros r s R T,
  λ w. tableau-stays p prime m (m - 1) n a (without_row e a) e (without_row-removed p m n a e el) S U P B row X inv same
      base inside zeros r s R T w.0 w.1 w.2 w.3,
)
