use Rattle.std.proofs.Common.{◌∙◌, ◌-◌, ap, arith}
use Rattle.dense_q.specs.Tables.{entry, height, table_with_entry}
use Rattle.row_entries.proofs.TableLaws.{filled-none, filled-put}
use Rattle.row_entries.proofs.matrix.EntryMat.fill_last.Goals as goal

pub loop-j-init : goal.loop-j-init
loop-j-init g c =
    filled-none c.args.self.now (height c.args.self.now - 1) (entry c.args.q.now c.args.i) c.cols-j-end.ensures.matrix
    (omega (arith, c.requires.some)) c.requires.zero

pub loop-j-preserved : goal.loop-j-preserved
loop-j-preserved g c =
    let so_far = c.loop-j.invariant in
    filled-put c.args.self.now c.loop-j.self c.put.new.self (height c.args.self.now - 1) c.loop-j.j
    (g.F.Field.number c.get.result) (entry c.args.q.now c.args.i) so_far (omega (arith, c.requires.some))
    (omega (arith, c.loop-j-test.true, c.cols-j-end.ensures.cols))
    (c.in_ok-put.ensures.ok
    ∙ ap (λ h. table_with_entry c.loop-j.self (h - 1) c.loop-j.j (g.F.Field.number c.get.result)) so_far.size.height_same)
    c.get.ensures
