use Rattle.part_rules.proofs.Numbering.{down-numbers, numbers-down}
use Rattle.part_rules.proofs.numbers_tell_arcs.Goals as goal

pub returns : goal.returns
returns c arc n starts ends F L block part b lower N = (
  down-numbers n b F L block part N arc starts ends lower,
  numbers-down n b F L block part N arc starts ends lower,
)
