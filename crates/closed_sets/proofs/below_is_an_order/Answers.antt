use Rattle.closed_sets.proofs.BlockOrder.{below-order}
use Rattle.closed_sets.proofs.below_is_an_order.Goals as goal

pub returns : goal.returns
returns c arc n starts ends block b below L W = below-order arc n starts ends block b L below W
