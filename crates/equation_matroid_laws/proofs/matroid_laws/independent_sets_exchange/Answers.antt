use Rattle.std.proofs.Common.{◌≡◌, ◌<◌, ℕ, true, false}
use Rattle.residue_theory.specs.Sets.{with_one}
use Rattle.equation_matroid_laws.proofs.RowRanks.{Free, free-exchange, free-independent, independent-free}
use Rattle.equation_matroid_laws.specs.EquationRanks.{AreIndependent}
use Rattle.equation_matroid_laws.proofs.matroid_laws.independent_sets_exchange.Goals as goal

pub returns : goal.returns
returns c p prime big M X Y x y less = go (free-exchange p prime M big X Y (independent-free p prime M X x) (independent-free p prime M Y y) less)
  where
    go : (y : ℕ) × (y < M.rows) × (Y y ≡ true) × (X y ≡ false) × Free p prime M (with_one X y) →
        (y : ℕ) × (y < M.rows) × (Y y ≡ true) × (X y ≡ false) × AreIndependent p M (with_one X y)
    go (y, l, h, e, free) = (y, l, h, e, free-independent p prime M (with_one X y) free)
