use Rattle.equation_matroid_laws.proofs.RowRanks.{free-independent, free-within, independent-free}
use Rattle.equation_matroid_laws.proofs.matroid_laws.subsets_are_independent.Goals as goal

pub returns : goal.returns
returns c p prime M X Y within ind = free-independent p prime M X (free-within p prime M X Y within (independent-free p prime M Y ind))
