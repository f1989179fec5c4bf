use Rattle.linear_algebra_laws.proofs.Bases.{base-combines, combines_of-base}
use Rattle.linear_algebra_laws.proofs.base_laws.bases_span_what_is_zero_elsewhere.Goals as goal

pub returns : goal.returns
returns c p prime P m n B row base x =
    (base-combines p prime P m n B row base x, combines_of-base p prime P m n B row base x)
