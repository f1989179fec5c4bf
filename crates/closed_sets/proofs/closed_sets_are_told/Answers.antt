use Rattle.closed_sets.proofs.ClosedLaws.{closed-from, closed-to, in_every, in_none, holds_with, with_holds, together-mutual, mutual-together}
use Rattle.closed_sets.proofs.closed_sets_are_told.Goals as goal

pub returns : goal.returns
returns c arc n starts ends clear = (
  (λ y l. (in_every arc n starts ends clear y l, λ f X k. closed-from arc n starts ends X k y l f)),
  (λ y l. (in_none arc n starts ends clear y l, λ t X k h. closed-to arc n starts ends X k y l t h)),
  (λ y x yl xl none. (holds_with arc n starts ends clear y x yl xl none, with_holds arc n starts ends clear y x yl xl)),
  (λ x y mx my. (together-mutual arc n starts ends clear x y mx my, mutual-together arc n starts ends clear x y mx.0 my.0)),
)
