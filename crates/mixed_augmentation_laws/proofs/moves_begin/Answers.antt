use Rattle.mixed_augmentation_laws.proofs.Moves.{stage-start}
use Rattle.mixed_augmentation_laws.proofs.moves_begin.Goals as goal

pub returns : goal.returns
returns c p L F R T W = stage-start p L F R T W
