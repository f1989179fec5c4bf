use Rattle.flowsheet_reader.proofs.EachText.{flowsheet_answered}
use Rattle.flowsheet_reader.proofs.laws.each_flowsheet_gives_a_model_or_is_refused.Goals as goal

pub returns : goal.returns
returns c = flowsheet_answered
