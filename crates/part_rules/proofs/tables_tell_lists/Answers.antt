use Rattle.part_rules.proofs.Lists.{covers-lists, lists-covers, lists-least}
use Rattle.part_rules.proofs.tables_tell_lists.Goals as goal

pub returns : goal.returns
returns c arc n starts ends F L block part b lower below head N falling A G B H = (
  (λ R. (lists-covers arc n starts ends F L block part b lower N falling A G R, lists-least arc n starts ends F L block part b lower N falling A G R head H)),
  (λ t. covers-lists arc n starts ends F L block part b lower N falling A G t.0 head H t.1 below B),
)
