use Rattle.flowsheet_reader.proofs.ModelLaws.{gives-unrefused, one_refusal}
use Rattle.flowsheet_reader.proofs.laws.a_flowsheet_has_one_refusal.Goals as goal

pub returns-clause-none : goal.returns-clause-none
returns-clause-none c = gives-unrefused

pub returns-clause-one : goal.returns-clause-one
returns-clause-one c = one_refusal
