use Rattle.std.proofs.Common.{inl, inr, arith}
use Rattle.mixed_model.specs.Models.{mixed_matrix_of}
use Rattle.block_solver.proofs.SolvedForms.{open-told}
use Rattle.block_solver.proofs.solving.solve.Goals as goal
use Rattle.block_solver.proofs.solving.solve.Goals.{then-rank-equations-via-then-rank-equations}
use Rattle.block_solver.proofs.solving.solve.Goals.{then-rank-equations-via-else-rank-equations+then-rank-unknowns}

pub returns-then-rank-equations : goal.returns-then-rank-equations
returns-then-rank-equations g c = open-told g.F.Field.modulus (mixed_matrix_of c.args.model.now) c.args.form.now.rank
    c.requires.form.right.pair_and_rank.rank
    (elim c.then-rank-equations.branch [
      | then-rank-equations-via-then-rank-equations w ↦ inl (omega (arith, w.if-rank-equations.true, c.rank.ensures.rank, c.equations.ensures.count))
      | then-rank-equations-via-else-rank-equations+then-rank-unknowns w ↦
          inr (omega (arith, w.if-rank-unknowns.true, w.rank-else-rank-equations.ensures.rank, c.unknowns-unknowns.ensures.count))
    ])
