use Rattle.row_choice_laws.proofs.WalksBack.{back-route}
use Rattle.row_choice_laws.proofs.growth_laws.walks_back_are_routes.Goals as goal

pub returns : goal.returns
returns c p L F T s bare at col k W C = back-route p L F s at k W T bare col C
