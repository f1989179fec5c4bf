use Rattle.mixed_augmentation_laws.proofs.Sealed.{stayed-free, stayed-rooted, stayed-sealed}
use Rattle.mixed_augmentation_laws.proofs.sealed_sets_stay_sealed.Goals as goal

pub returns : goal.returns
returns c p L F G T U C K S = (stayed-sealed p L F G C K T S U, stayed-free p L F G C K, stayed-rooted p L F G C K T S)
