use Rattle.std.proofs.Common.{subst, arith}
use Rattle.sparse_t.specs.Incidences.{AreRowsAt}
use Rattle.independent_matching.proofs.SideLaws.{no_free_row}
use Rattle.independent_matching.proofs.pair.Pair.free_t_row.Goals as goal

pub returns-clause-none : goal.returns-clause-none
returns-clause-none g c =
    no_free_row c.args.self.now.mates c.pattern.ensures.matching c.args.x c.rows_of-row-items.result.now
    (subst (λ p. AreRowsAt p c.args.x c.rows_of-row-items.result.now) c.pattern.ensures.pattern c.rows_of-row-items.ensures)
    (λ k l. c.loop-row.invariant k (omega (arith, l, c.loop-row-test.false)))
