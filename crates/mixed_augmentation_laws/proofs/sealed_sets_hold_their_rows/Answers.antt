use Rattle.mixed_augmentation_laws.proofs.Sealed.{rows-sealed, sealed-rows}
use Rattle.mixed_augmentation_laws.proofs.sealed_sets_hold_their_rows.Goals as goal

pub returns : goal.returns
returns c p L F T C = (sealed-rows p L F C, rows-sealed p L F C T.base T.matching)
