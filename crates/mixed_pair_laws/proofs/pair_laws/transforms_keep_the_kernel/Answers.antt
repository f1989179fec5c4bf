use Rattle.mixed_pair_laws.proofs.TableauParts.{tableau}
use Rattle.mixed_pair_laws.proofs.pair_laws.transforms_keep_the_kernel.Goals as goal

pub returns : goal.returns
returns c = tableau
