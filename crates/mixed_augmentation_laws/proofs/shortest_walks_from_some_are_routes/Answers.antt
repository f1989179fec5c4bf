use Rattle.std.proofs.Common.{arith}
use Rattle.mixed_augmentation_laws.proofs.Routes.{shortest_from-route}
use Rattle.mixed_augmentation_laws.proofs.shortest_walks_from_some_are_routes.Goals as goal

pub returns : goal.returns
returns c p L F T S free at k W in_q row E = shortest_from-route p L F T S at k W (free (at 0) (W.below 0
    (omega arith)) W.begins) in_q row E
