-- Which rule is the first that a printed form breaks, and what that says of it.
use Rattle.std.specs.Prelude.{ℕ, zero, suc, ◌+◌, ◌<◌, ◌≤◌, ◌≡◌, ⊤, length}
use Rattle.residue_theory.specs.Residues.{IsPrime}
use Rattle.linear_algebra.specs.Products.{Agree, IsInverse, product}
use Rattle.mixed_matrices.specs.LayeredMatrices.{LayeredMatrix}
use Rattle.mixed_matrices.specs.Layerings.{IsLayeredMatrixOf, Origins}
use Rattle.mixed_matrices.specs.Models.{MixedMatrix}
use Rattle.cert_text.specs.Contents.{Contents}
use Rattle.cert_text.specs.Ranges.{IsCcf}
use Rattle.cert_text.specs.Readings.{matrix_of, pattern_of, column_lists, StandsOnce}
use Rattle.cert_text.specs.Right.{HasShape, HasProduct, HasUnitColumns, IsRightCcf}
use Rattle.cert_text.specs.Rules.{HasMatching, HasPlacedRows, LeadsDown, HasReasons, HasLowerLists}

-- the two halves of rule 4
abbrev pub IsTransformed : ℕ → LayeredMatrix → Contents → Type 0
IsTransformed p L c = Agree p L.q_rows L.columns (matrix_of c.p) (product L.q_rows (matrix_of c.s) L.q)

abbrev pub PrintsSymbols : LayeredMatrix → Contents → Type 0
PrintsSymbols L c = (i j : ℕ) → i < L.t_rows → j < L.columns → pattern_of c.t i j ≡ L.t i j

-- rule 7: the printed rank with the number of columns is the number of unknowns with that of items
abbrev pub IsCounted : MixedMatrix → LayeredMatrix → Contents → Type 0
IsCounted M L c = c.rank + L.columns ≡ M.columns + (length c.base + length c.mates)

-- the rules from the second on, counted from 0; past the last there is none to break
abbrev pub KeepsRule : ℕ → MixedMatrix → LayeredMatrix → Contents → ℕ → Type 0
KeepsRule p M L c zero = HasShape M L c
KeepsRule p M L c (suc zero) = IsInverse p L.q_rows (matrix_of c.s) (matrix_of c.u)
KeepsRule p M L c (suc (suc zero)) = HasProduct p L c
KeepsRule p M L c (suc (suc (suc zero))) = HasUnitColumns p L c
KeepsRule p M L c (suc (suc (suc (suc zero)))) = HasMatching L c
KeepsRule p M L c (suc (suc (suc (suc (suc zero))))) = IsCounted M L c
KeepsRule p M L c (suc (suc (suc (suc (suc (suc zero)))))) = StandsOnce L.columns (column_lists c)
KeepsRule p M L c (suc (suc (suc (suc (suc (suc (suc zero))))))) = HasPlacedRows L c
KeepsRule p M L c (suc (suc (suc (suc (suc (suc (suc (suc zero)))))))) = LeadsDown p L c
KeepsRule p M L c (suc (suc (suc (suc (suc (suc (suc (suc (suc zero))))))))) = HasReasons p L c
KeepsRule p M L c (suc (suc (suc (suc (suc (suc (suc (suc (suc (suc zero)))))))))) = HasLowerLists p L c
KeepsRule p M L c (suc (suc (suc (suc (suc (suc (suc (suc (suc (suc (suc k))))))))))) = ⊤

-- the first n rules from the second on are kept
abbrev pub KeepsFirst : ℕ → MixedMatrix → LayeredMatrix → Contents → ℕ → Type 0
KeepsFirst p M L c n = (k : ℕ) → k < n → KeepsRule p M L c k

-- `rule` is the number of the first one that is broken
pub record IsFirstBrokenRule (p : ℕ) (M : MixedMatrix) (L : LayeredMatrix) (c : Contents) (rule : ℕ) : Type 0 where
  pub from : 2 ≤ rule
  pub to : rule ≤ 12
  pub kept : (k : ℕ) → k + 2 < rule → KeepsRule p M L c k
  pub broken : (k : ℕ) → k + 2 ≡ rule → KeepsRule p M L c k → ⊥

-- a form that breaks none is right, and one that breaks one is not; p is a prime above 2
abbrev pub RightWhereNoneIsBroken : Type 0
RightWhereNoneIsBroken =
    (p : ℕ) → IsPrime p → 2 < p → (M : MixedMatrix) (L : LayeredMatrix) (O : Origins) → IsLayeredMatrixOf M L O →
    (c : Contents) → IsCcf p c →
    (KeepsFirst p M L c 11 → IsRightCcf p M L O c)
    × ((rule : ℕ) → IsFirstBrokenRule p M L c rule → IsRightCcf p M L O c → ⊥)

-- all layered matrices of a model give one answer: a form that keeps each rule for one does so for each, and the first
-- that it breaks for one is the first that it breaks for each
abbrev pub LayeredMatricesGiveOneAnswer : Type 0
LayeredMatricesGiveOneAnswer =
    (p : ℕ) (M : MixedMatrix) (L K : LayeredMatrix) (O N : Origins) →
    IsLayeredMatrixOf M L O → IsLayeredMatrixOf M K N → (c : Contents) → IsCcf p c →
    (KeepsFirst p M L c 11 → KeepsFirst p M K c 11)
    × ((rule : ℕ) → IsFirstBrokenRule p M L c rule → IsFirstBrokenRule p M K c rule)

-- the rows and columns that a form prints are as many as those of the layered matrix
pub record HasSizes (L : LayeredMatrix) (c : Contents) : Type 0 where
  pub q_rows : c.shape.q_rows ≡ L.q_rows
  pub t_rows : c.shape.t_rows ≡ L.t_rows
  pub columns : c.shape.columns ≡ L.columns
