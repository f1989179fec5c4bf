use Rattle.closed_sets.proofs.ExampleLaws.{pair-closed, two-open}
use Rattle.closed_sets.proofs.example_of_closed.Goals as goal

pub returns : goal.returns
returns c = (pair-closed, two-open)
