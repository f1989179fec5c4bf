use Rattle.std.proofs.Common.{subst}
use Rattle.row_transform.specs.Tableaus.{AreTableauParts}
use Rattle.sparse_tableau.specs.Sparse.{Sparse, sparse_state}
use Rattle.sparse_tableau.proofs.SparseLaws.{parts-are}
use Rattle.sparse_tableau.proofs.sparse.SparseTableauTableau.parts.Goals as goal

pub returns : goal.returns
returns g c =
    let inside = c.self.inside in
    subst (λ (t : Sparse). AreTableauParts (sparse_state t) c.in_ok-s.s c.in_ok-u.u c.in_ok-p.p) c.self.view_is
    (parts-are g.F.Field.modulus (record {
      q = inside.columns;
      p = inside.transform.p;
      s = inside.transform.s;
      v =
          inside.v;
      base = inside.base;
      room = record { rows = inside.row_room; columns = inside.column_room };
    })
    c.in_ok-s.s c.in_ok-v.v c.in_ok-u.u c.in_ok-p.p c.self.invariant.0 c.in_ok-s.ensures c.in_ok-v.ensures
    c.in_ok-u.ensures c.in_ok-p.ensures)
