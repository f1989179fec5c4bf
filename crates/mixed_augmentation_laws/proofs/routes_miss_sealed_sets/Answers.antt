use Rattle.mixed_augmentation_laws.proofs.Sealed.{route-misses, route-other}
use Rattle.mixed_augmentation_laws.proofs.routes_miss_sealed_sets.Goals as goal

pub returns : goal.returns
returns c p L F R T W C S j le = (route-misses p L F R W C S j le, route-other p L F R W T C S j le)
