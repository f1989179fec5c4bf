use Rattle.std.proofs.Common.{◌≡◌, ◌-◌, zero, suc, subst, arith}
use Rattle.linear_algebra.specs.Parts.{skip, without_row}
use Rattle.linear_algebra.specs.Products.{product, Agree, IsInverse}
use Rattle.tableau_edit_laws.proofs.Leaving.{moved-inverse, moved-product}
use Rattle.tableau_edit_laws.proofs.laws.rows_leave_in_any_order.Goals as goal

pub returns : goal.returns
returns c p zero n a S U P e k from el rows inv same zeros = absurd (omega arith)
returns c p (suc m) n a S U P e k from el rows inv same zeros =
    subst (λ s. IsInverse p s (λ i t. S (from i) (skip e t)) (λ t i. U (skip e t) (from i))
    × Agree p s n (λ i j. P (from i) j) (product s (λ i t. S (from i) (skip e t)) (without_row e a)))
    (let q : m ≡ suc m - 1 = omega arith in q) (
      moved-inverse p n a S U P e k m from el rows zeros inv,
      moved-product p n a S U P e k m from el rows zeros same,
    )
