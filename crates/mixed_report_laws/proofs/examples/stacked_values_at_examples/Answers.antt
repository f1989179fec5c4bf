use Rattle.mixed_form_laws.proofs.StackedExample.{stacked-rank}
use Rattle.mixed_report_laws.proofs.ExampleRanks.{stacked_model-rank, stacked_one-rank, stacked_two-rank}
use Rattle.mixed_report_laws.proofs.examples.stacked_values_at_examples.Goals as goal

pub returns-clause-model : goal.returns-clause-model
returns-clause-model c = stacked_model-rank

pub returns-clause-layered : goal.returns-clause-layered
returns-clause-layered c = stacked-rank

pub returns-clause-one : goal.returns-clause-one
returns-clause-one c = stacked_one-rank

pub returns-clause-two : goal.returns-clause-two
returns-clause-two c = stacked_two-rank
