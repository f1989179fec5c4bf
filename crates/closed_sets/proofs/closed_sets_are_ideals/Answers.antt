use Rattle.closed_sets.proofs.Ideals.{ideal-closed, closed-ideal, blocks_of}
use Rattle.closed_sets.proofs.closed_sets_are_ideals.Goals as goal

pub returns : goal.returns
returns c arc n starts ends clear block b L X = (
  (λ k. (blocks_of arc n starts ends clear block b L X, closed-ideal arc n starts ends clear block b L X k)),
  λ (B, i). ideal-closed arc n starts ends clear block b L X B i,
)
