-- How many pivots a route has.
use Rattle.std.proofs.Common.{ℕ, suc, ◌+◌, ◌≤◌, Bool, cond, arith}
use Rattle.residue_theory.specs.Sums.{size_on}
use Rattle.mixed_matrices.specs.LayeredMatrices.{LayeredMatrix}
use Rattle.mixed_matrices.specs.Tableaus.{Tableau}
use Rattle.residue_theory.proofs.CountLaws.{size-injection}
use Rattle.mixed_augmentation_laws.specs.Moves.{Route, IsRoute}

at_most_one : (b : Bool) → cond b 1 0 ≤ 1
at_most_one b = grind arith

-- a route has at most one pivot more than there are base columns
pub route-pivots : (p : ℕ) (L : LayeredMatrix) (F : Tableau) (R : Route) → IsRoute p L F R →
    size_on R.in_q (suc R.last) ≤ size_on F.base L.columns + 1
route-pivots p L F R W = omega (arith, at_most_one (R.in_q R.last), inner)
  where
    inner : size_on R.in_q R.last ≤ size_on F.base L.columns
    inner = size-injection R.in_q R.last (λ j. R.at (suc j)) L.columns F.base
        (λ j l q. W.below (suc j) (omega arith)) (λ j l q. (W.row_left j l q).0)
        (λ i j il jl qi qj e. omega (arith, W.differ (suc i) (suc j) (omega arith) (omega arith) e))
