use Rattle.std.proofs.Common.{◌≡◌, ◌+◌, suc, subst, arith}
use Rattle.linear_algebra.specs.Products.{product, Agree, IsInverse}
use Rattle.tableau_edit_laws.proofs.Joining.{joined-inverse, joined-product}
use Rattle.tableau_edit_laws.proofs.laws.rows_join_tableaus.Goals as goal

pub returns : goal.returns
returns c p m n a b S U P T V R e k x f d el kl one inv same rows J =
    subst (λ s. IsInverse p s T V × Agree p s n R (product s T b)) (let q : suc m ≡ m + 1 = omega arith in q) (
      joined-inverse p m n a b S U P T V R e k x f d (omega arith) (omega arith) one inv same rows J,
      joined-product p m n a b S U P T V R e k x f d (omega arith) (omega arith) one inv same rows J,
    )
