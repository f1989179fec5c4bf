use Rattle.linear_algebra_laws.proofs.Bases.{base-independent}
use Rattle.linear_algebra_laws.proofs.base_laws.bases_are_independent.Goals as goal

pub returns : goal.returns
returns c p prime P m n B row base = base-independent p prime P m n B row base B (λ j _ h. h)
