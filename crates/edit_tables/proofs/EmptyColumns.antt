-- A column of zeros of P is one of Q.
use Rattle.std.proofs.Common.{◌≡◌, ℕ, ◌%◌, ◌<◌, sym, ◌∙◌}
use Rattle.residue_theory.specs.Residues.{IsPrime}
use Rattle.linear_algebra_laws.proofs.Products.{kernel-zero}
use Rattle.row_transform.specs.Tableaus.{IsTableau, TableauState}

-- S carries the column of Q to the column of P, and no column but zero to zero
pub empty-back : (p : ℕ) → IsPrime p → (t : TableauState) → IsTableau p t → (v : ℕ) → v < t.columns →
    ((i : ℕ) → i < t.rows → t.p i v % p ≡ 0) → (i : ℕ) → i < t.rows → t.q i v % p ≡ 0
empty-back p prime t tableau v vl zero = kernel-zero p prime t.rows t.s t.u tableau.inverse (λ i. t.q i v)
    (λ i il. sym (tableau.product_is i v il vl) ∙ zero i il)
