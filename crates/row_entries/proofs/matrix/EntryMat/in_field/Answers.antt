use Rattle.std.proofs.Common.{arith, subst}
use Rattle.dense_q.specs.Tables.{AreResidues, Table}
use Rattle.row_entries.proofs.TableLaws.{are-residues}
use Rattle.row_entries.proofs.matrix.EntryMat.in_field.Goals as goal

pub returns : goal.returns
returns g c = subst (λ (m : Table). AreResidues g.F.Field.modulus m.rows) c.self.view_is
    (are-residues g.F.Field.modulus c.self.inside.width _ c.self.invariant (omega (arith, c.in_field.ensures)))
