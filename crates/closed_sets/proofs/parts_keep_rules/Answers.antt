use Rattle.closed_sets.proofs.BlockOrder.{parts-keep}
use Rattle.closed_sets.proofs.parts_keep_rules.Goals as goal

pub returns : goal.returns
returns c arc n starts ends F L block b below covers clear P W C within =
    parts-keep arc n starts ends block b P.listing below W F L clear P.first (λ x l. (P.last x l).0) (λ x l. (P.last x l).1) covers C within
