use Rattle.search_laws.proofs.ShortestWalks.{no_shortcut, places_differ, one_start, one_end}
use Rattle.search_laws.proofs.shortest_walks_are_bare.Goals as goal

pub returns : goal.returns
returns c arc n starts ends at k W = record {
  no_shortcut = no_shortcut arc n starts ends at k W;
  places_differ = places_differ arc n starts ends at k W;
  one_start = one_start arc n starts ends at k W;
  one_end = one_end arc n starts ends at k W;
}
