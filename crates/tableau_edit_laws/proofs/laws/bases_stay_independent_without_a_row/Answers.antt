use Rattle.std.proofs.Common.{◌-◌, sym, refl}
use Rattle.residue_theory.specs.Sums.{size_on}
use Rattle.linear_algebra.specs.Parts.{without_row}
use Rattle.linear_algebra_laws.proofs.RankLaws.{rank_of-independent}
use Rattle.linear_algebra_laws.proofs.RowRemoval.{without_row-removed, stays-tableau}
use Rattle.linear_algebra_laws.proofs.Tableaus.{tableau-independent}
use Rattle.tableau_edit_laws.proofs.Leaving.{clear-independent}
use Rattle.tableau_edit_laws.proofs.laws.bases_stay_independent_without_a_row.Goals as goal

pub returns : goal.returns
returns c p prime m n a S U P B row e el inv same base = (
  λ ind. stays-tableau p prime m (m - 1) n a (without_row e a) e (without_row-removed p m n a e el) S U P B row B inv same base
      (λ j _ h. h) (λ i j il jl jh none. base.zero j i jl jh il (λ q. none j jl jh (sym q))) (size_on B n) (size_on B n)
      (rank_of-independent p a m n B (tableau-independent p prime m n S U a P B row inv same base))
      (rank_of-independent p (without_row e a) (m - 1) n B ind) refl,
  λ w. clear-independent p prime m n a S U P B row e el inv same base B w.0 (λ j _ h. h) w.1
      (λ j jl jh. base.zero j w.0 jl jh w.1 (λ q. w.2 j jl jh (sym q))) w.3,
)
