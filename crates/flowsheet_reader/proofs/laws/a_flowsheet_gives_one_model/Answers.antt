use Rattle.flowsheet_reader.proofs.ModelLaws.{text_gives_one}
use Rattle.flowsheet_reader.proofs.laws.a_flowsheet_gives_one_model.Goals as goal

pub returns : goal.returns
returns c = text_gives_one
