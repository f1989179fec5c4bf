use Rattle.std.proofs.Common.{◌<◌, ap, length, arith}
use Rattle.std.proofs.lemmas.Grind.{common_steps}
use Rattle.dense_q.specs.Tables.{height}
use Rattle.dense_q.proofs.TableLaws.{numbers-copied, with_row-other, with_row-same}
use Rattle.dense_q.proofs.matrix.Mat.copy_row_of.Goals as goal

pub returns-clause-row : goal.returns-clause-row
returns-clause-row g c =
    let others = c.other.inside.rows.items in
    let source : c.args.j < length others = grind (arith, common_steps, ap height c.other.view_is) in
    rw (← c.self.view_is, ← c.other.view_is) (ap (λ rs. record { width = c.self.inside.width; rows = rs })
    (numbers-copied g.F.Field.number c.self.inside.rows.items others c.args.i c.args.j c.copy_from_slice.new.self
    c.index.result.now c.deref.result.now source c.index.ensures c.deref.ensures.value
    c.copy_from_slice.ensures.items))

pub returns-clause-changed : goal.returns-clause-changed
returns-clause-changed g c =
    λ k. with_row-same c.args.self.now _ c.args.i _ c.requires.target (returns-clause-row g c) k

pub returns-clause-others : goal.returns-clause-others
returns-clause-others g c = λ t k ne. with_row-other c.args.self.now _ c.args.i _ (returns-clause-row g c) t k ne
