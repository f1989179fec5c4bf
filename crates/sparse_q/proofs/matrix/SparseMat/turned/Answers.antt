use Rattle.std.proofs.Common.{arith}
use Rattle.linear_algebra.specs.Products.{transposed}
use Rattle.sparse_q.specs.Tables.{sparse_rows, number_in}
use Rattle.sparse_q.proofs.MadeLaws.{made-next, made-all}
use Rattle.sparse_q.proofs.matrix.SparseMat.turned.Goals as goal

pub loop-j-preserved : goal.loop-j-preserved
loop-j-preserved g c =
    made-next (sparse_rows c.args.self.now) (transposed (number_in c.args.self.now)) c.loop-j.rows.items c.push.new.self.items
    c.loop-j.j c.in_ok-column_of.field-0 c.loop-j.invariant c.in_ok-push.ensures.items
    c.in_ok-column_of.ensures.width c.in_ok-column_of.ensures.numbers

pub returns-clause-numbers : goal.returns-clause-numbers
returns-clause-numbers g c =
    made-all (sparse_rows c.args.self.now) (transposed (number_in c.args.self.now)) c.loop-j.rows.items c.loop-j.j
    c.loop-j.invariant (λ j i le. c.requires.outside i j
    (omega (arith, c.cols-j-end.ensures.cols, c.loop-j-test.false)))
