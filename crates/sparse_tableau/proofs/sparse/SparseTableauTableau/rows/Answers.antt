use Rattle.std.proofs.Common.{subst}
use Rattle.row_transform.specs.Tableaus.{IsTableau}
use Rattle.sparse_tableau.specs.Sparse.{Sparse, sparse_state}
use Rattle.sparse_tableau.proofs.sparse.SparseTableauTableau.rows.Goals as goal

pub returns-clause-tableau : goal.returns-clause-tableau
returns-clause-tableau g c =
    subst (λ (t : Sparse). IsTableau g.F.Field.modulus (sparse_state t)) c.self.view_is c.self.invariant.0.tableau
