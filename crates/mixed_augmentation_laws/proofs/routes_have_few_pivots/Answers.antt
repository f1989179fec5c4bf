use Rattle.mixed_augmentation_laws.proofs.Counting.{route-pivots}
use Rattle.mixed_augmentation_laws.proofs.routes_have_few_pivots.Goals as goal

pub returns : goal.returns
returns c p L F R W = route-pivots p L F R W
