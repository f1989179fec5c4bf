use Rattle.mixed_augmentation_laws.proofs.Sealed.{mate-keeps, row-keeps, self-keeps}
use Rattle.mixed_augmentation_laws.proofs.routes_leave_sealed_sets.Goals as goal

pub returns : goal.returns
returns c p L F R T W = (
  self-keeps p L F,
  λ i G H le K. (row-keeps p L F R T W i le G H K, mate-keeps p L F R T W i le G H K),
)
