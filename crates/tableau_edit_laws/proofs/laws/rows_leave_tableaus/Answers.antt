use Rattle.std.proofs.Common.{◌≡◌, ◌-◌, zero, suc, subst, arith}
use Rattle.linear_algebra.specs.Parts.{without_row, without_column}
use Rattle.linear_algebra.specs.Products.{product, Agree, IsInverse}
use Rattle.tableau_edit_laws.proofs.Leaving.{left-inverse, left-product}
use Rattle.tableau_edit_laws.proofs.laws.rows_leave_tableaus.Goals as goal

pub returns : goal.returns
returns c p zero n a S U P e k el kl inv same zeros = absurd (omega arith)
returns c p (suc m) n a S U P e k el kl inv same zeros =
    subst (λ s. IsInverse p s (without_column e (without_row k S)) (without_row e (without_column k U))
    × Agree p s n (without_row k P) (product s (without_column e (without_row k S)) (without_row e a)))
    (let q : m ≡ suc m - 1 = omega arith in q) (
      left-inverse p n a S U P e k m el kl zeros inv,
      left-product p n a S U P e k m el kl zeros same,
    )
