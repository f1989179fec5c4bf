use Rattle.linear_algebra_laws.proofs.PartLaws.{part-only_zero, only_zero-part}
use Rattle.linear_algebra_laws.proofs.block_laws.parts_are_their_rows.Goals as goal

pub returns : goal.returns
returns c p m n a R X Y within =
    (part-only_zero p m n a R X Y within, only_zero-part p m n a R X Y within)
