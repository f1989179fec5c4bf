use Rattle.mixed_edit_laws.proofs.Wider.{wider-rank}
use Rattle.mixed_edit_laws.proofs.change_laws.wider_models_have_the_rank.Goals as goal

pub returns : goal.returns
returns c = wider-rank
