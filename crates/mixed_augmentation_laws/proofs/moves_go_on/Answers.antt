use Rattle.mixed_augmentation_laws.proofs.Moves.{row-entry, row-no_base, stage-mate, stage-row}
use Rattle.mixed_augmentation_laws.proofs.moves_go_on.Goals as goal

pub returns : goal.returns
returns c p L F R T W i G H stage = (
  λ q. (row-entry p L F R T W i G H stage q, row-no_base p L F R T W i G H stage q, stage-row p L F R T W i G H stage q),
  stage-mate p L F R T W i G H stage,
)
