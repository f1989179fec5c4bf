use Rattle.linear_algebra_laws.proofs.Tableaus.{tableau-zero, tableau-combination}
use Rattle.linear_algebra_laws.proofs.base_laws.tableau_tells_the_span.Goals as goal

pub returns : goal.returns
returns c p prime m n S U a P B row inv same base v vl =
    (tableau-zero p prime m n S U a P B row inv same base v vl, tableau-combination p prime m n S U a P B row inv same base v vl)
