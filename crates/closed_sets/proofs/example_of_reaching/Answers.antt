use Rattle.closed_sets.proofs.ExampleLaws.{two-reaches, never-two}
use Rattle.closed_sets.proofs.example_of_reaching.Goals as goal

pub returns : goal.returns
returns c = (two-reaches, never-two)
