use Rattle.mixed_model.proofs.ModelLaws.{same_models}
use Rattle.mixed_model.proofs.mixed.places_tell_a_model.Goals as goal

pub returns : goal.returns
returns c = same_models
