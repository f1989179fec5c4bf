use Rattle.std.proofs.Common.{subst, arith}
use Rattle.sparse_t.specs.Incidences.{AreRowsAt}
use Rattle.independent_matching.proofs.NextLaws.{t_had, t_next, t_turns-are}
use Rattle.independent_matching.proofs.pair.Pair.next_in_t.Goals as goal

pub returns-in-Some-clause-some : goal.returns-in-Some-clause-some
returns-in-Some-clause-some g c =
    let M = c.args.self.now.mates in
    let list = c.rows_of-rows.result.now in
    let rows : AreRowsAt M.pattern c.args.x list =
    subst (λ P. AreRowsAt P c.args.x list) c.pattern.ensures.pattern c.rows_of-rows.ensures in
    t_next M c.pattern.ensures.matching c.args.x list rows c.args.from c.loop-at.at c.in-Some.y c.loop-at.auto.at
    c.loop-at-test.true (omega (arith, c.loop-at-test.true, c.rows_of-rows.type_inv.1)) c.loop-at.invariant
    c.in-Some.ensures.some c.if-y-x.true

pub returns-in-Some-clause-few : goal.returns-in-Some-clause-few
returns-in-Some-clause-few g c =
    let M = c.args.self.now.mates in
    let list = c.rows_of-rows.result.now in
    let rows : AreRowsAt M.pattern c.args.x list =
    subst (λ P. AreRowsAt P c.args.x list) c.pattern.ensures.pattern c.rows_of-rows.ensures in
    omega (arith, t_turns-are M c.pattern.ensures.matching c.args.x list rows, c.loop-at-test.true)

pub returns-clause-none : goal.returns-clause-none
returns-clause-none g c =
    let M = c.args.self.now.mates in
    let list = c.rows_of-rows.result.now in
    let rows : AreRowsAt M.pattern c.args.x list =
    subst (λ P. AreRowsAt P c.args.x list) c.pattern.ensures.pattern c.rows_of-rows.ensures in
    t_had M c.pattern.ensures.matching c.args.x list rows M.pattern.width c.args.from c.loop-at.at
    c.loop-at.invariant c.loop-at-test.false
