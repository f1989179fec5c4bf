use Rattle.closed_sets.proofs.ClosedLaws.{reached-closed, closed-from}
use Rattle.closed_sets.proofs.reached_set_is_least.Goals as goal

pub returns : goal.returns
returns c arc n starts ends clear X R =
    (reached-closed arc n starts ends clear X R, λ Y d j l h. closed-from arc n starts ends Y d j l ((R j l).0 h))
