use Rattle.closed_sets.proofs.ExampleLaws.{example-listing, turned-listing}
use Rattle.closed_sets.proofs.example_of_listing.Goals as goal

pub returns : goal.returns
returns c = (example-listing, turned-listing)
