use Rattle.mixed_augmentation_laws.proofs.Sealed.{mate-stays, row-stays, stayed-rows}
use Rattle.mixed_augmentation_laws.proofs.moves_leave_sealed_sets.Goals as goal

pub returns : goal.returns
returns c p L F G C H v out = (
  (λ r rl away K. let S = row-stays p L F G C H v out r rl away K in (S, stayed-rows p L F G C S H)),
  λ t K. let S = mate-stays p L F G C H v out t K in (S, stayed-rows p L F G C S H),
)
