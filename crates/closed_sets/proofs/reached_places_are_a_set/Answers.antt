use Rattle.closed_sets.proofs.Hulls.{reached, reached-set}
use Rattle.closed_sets.proofs.reached_places_are_a_set.Goals as goal

pub returns : goal.returns
returns c arc n S = (reached arc n S, reached-set arc n S)
