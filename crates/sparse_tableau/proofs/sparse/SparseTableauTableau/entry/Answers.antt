use Rattle.std.proofs.Common.{◌%◌, ap, sym, ◌∙◌}
use Rattle.std.proofs.Math.Nat.{mod-eq_of_lt}
use Rattle.sparse_q.specs.Tables.{number_in}
use Rattle.sparse_tableau.specs.Sparse.{Sparse}
use Rattle.sparse_tableau.proofs.sparse.SparseTableauTableau.entry.Goals as goal

pub returns : goal.returns
returns g c =
    sym (mod-eq_of_lt c.in_field.ensures)
    ∙ ap (λ y. y % g.F.Field.modulus) (c.get-entry.ensures ∙ ap (λ (t : Sparse). number_in t.p c.args.row c.args.col)
    c.self.view_is)
