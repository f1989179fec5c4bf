use Rattle.search_laws.proofs.OutsideLaws.{shortest-outside, vain-grown, vain-size}
use Rattle.search_laws.proofs.searches_may_leave_out_what_was_reached_in_vain.Goals as goal

pub returns : goal.returns
returns c arc n starts ends left V some within apart = (
  shortest-outside arc n left ends V.closed some,
  λ X D R. (
    vain-grown arc n left ends V.closed starts V.rooted some X within apart D R,
    vain-size arc n left ends V.closed starts V.rooted some X within apart D R,
  ),
)
