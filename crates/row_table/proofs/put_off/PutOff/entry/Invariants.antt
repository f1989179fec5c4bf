use Rattle.std.proofs.Common.{◌≡◌, ◌+◌, ◌*◌, ◌%◌}
use Rattle.residue_theory.specs.Sums.{sum_below}
use Rattle.dense_q.specs.Tables.{entry}
use Rattle.row_table.proofs.put_off.PutOff.entry.Given as goal

abbrev pub invariant-loop-t : goal.invariant-loop-t
invariant-loop-t g l = g.F.Field.number l.sum % g.F.Field.modulus
    ≡ (entry l.self.stored l.i l.j + sum_below l.t (λ t. entry l.self.factors l.i t * entry l.self.pending t
    l.j)) % g.F.Field.modulus
