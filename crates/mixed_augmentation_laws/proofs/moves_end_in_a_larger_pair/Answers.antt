use Rattle.mixed_augmentation_laws.proofs.Moves.{end-size, end-tableau}
use Rattle.mixed_augmentation_laws.proofs.moves_end_in_a_larger_pair.Goals as goal

pub returns : goal.returns
returns c p L F R T W G stage = (end-tableau p L F R T W G stage, end-size p L F R T W G stage)
