use Rattle.mixed_augmentation_laws.proofs.Routes.{shortest-route}
use Rattle.mixed_augmentation_laws.proofs.shortest_walks_are_routes.Goals as goal

pub returns : goal.returns
returns c p L F T at k W in_q row E = shortest-route p L F T at k W in_q row E
