use Rattle.std.proofs.Common.{subst}
use Rattle.dense_q.specs.Tables.{IsMatrix}
use Rattle.row_entries.proofs.TableLaws.{is-matrix}
use Rattle.row_entries.proofs.matrix.EntryMat.is_matrix.Goals as goal

pub returns : goal.returns
returns g c = subst IsMatrix c.self.view_is (is-matrix g.F.Field.modulus c.self.inside.width _ c.self.invariant)
