use Rattle.part_rules.proofs.Withins.{met-reasons, reasons-met}
use Rattle.part_rules.proofs.marks_tell_reasons.Goals as goal

pub returns : goal.returns
returns c arc within n starts ends F L block part b lower head low high from to N falling A I H S E R T = (
  reasons-met arc n starts ends F L block part b lower N falling A within I head low high from to H S E R T,
  met-reasons arc n starts ends F L block part b lower N falling A within I head low high from to H S E R T,
)
