use Rattle.std.proofs.Common.{ℕ, ◌≤◌, ◌-◌}
use Rattle.sparse_q.specs.Tables.{sparse_rows, number_in, HasSize}
use Rattle.sparse_tableau.specs.Sparse.{HasSameRoom}
use Rattle.sparse_tableau.proofs.TransformLaws.{IsReducedTo}
use Rattle.sparse_tableau.proofs.transform.Transform.pivot.Given as goal

abbrev pub invariant-loop-i : goal.invariant-loop-i
invariant-loop-i g l =
    let k : ℕ → ℕ = λ i. number_in l.fn.self.p i l.col in
    record {
      within : l.from ≤ sparse_rows l.fn.self.p;
      p_size : HasSize (sparse_rows l.fn.self.p) l.fn.self.p.width l.self.p;
      s_size : HasSize (sparse_rows l.fn.self.s) l.fn.self.s.width l.self.s;
      p_room : HasSameRoom l.fn.self.p l.self.p;
      s_room : HasSameRoom l.fn.self.s l.self.s;
      on_p : IsReducedTo g.F.Field.modulus (number_in l.fn.self.p) (number_in l.self.p) l.row k l.from;
      on_s : IsReducedTo g.F.Field.modulus (number_in l.fn.self.s) (number_in l.self.s) l.row k l.from;
    }

abbrev pub decreases-loop-i : goal.decreases-loop-i
decreases-loop-i g l = sparse_rows l.fn.self.p - l.from
