use Rattle.std.proofs.Common.{◌+◌, refl}
use Rattle.linear_algebra_laws.proofs.examples.combinations_at_examples.Goals as goal

pub returns-clause-holds : goal.returns-clause-holds
returns-clause-holds c = ((λ _. 1), λ i l. refl)

-- once column 0, and twice column 1
pub returns-clause-holds_beside : goal.returns-clause-holds_beside
returns-clause-holds_beside c = ((λ j. j + 1), λ i l. refl)
