use Rattle.std.proofs.Common.{◌<◌, ap, length, arith}
use Rattle.std.proofs.lemmas.Grind.{common_steps}
use Rattle.dense_q.specs.Tables.{height}
use Rattle.dense_q.proofs.TableLaws.{numbers-plus_row, numbers-matrix, with_row-other, plus_row-same}
use Rattle.dense_q.proofs.matrix.Mat.add_row_of.Goals as goal

pub returns-clause-row : goal.returns-clause-row
returns-clause-row g c =
    let number = g.F.Field.number in
    let rows = c.self.inside.rows.items in
    let others = c.other.inside.rows.items in
    let target : c.args.i < length rows = grind (arith, common_steps, ap height c.self.view_is) in
    let source : c.args.j < length others = grind (arith, common_steps, ap height c.other.view_is) in
    rw (← c.self.view_is, ← c.other.view_is) (ap (λ rs. record { width = c.self.inside.width; rows = rs })
    (numbers-plus_row number g.F.Field.modulus (number c.args.c) rows others c.args.i c.args.j
    c.index_mut.result.now c.index.result.now c.deref_mut.result.now c.add_scaled.new.dst c.deref.result.now
    target source c.index_mut.ensures.value c.index.ensures c.deref_mut.ensures.value c.deref.ensures.value
    c.add_scaled.auto.dst c.add_scaled.ensures))

pub returns-clause-changed : goal.returns-clause-changed
returns-clause-changed g c =
    let number = g.F.Field.number in
    plus_row-same g.F.Field.modulus (number c.args.c) c.args.self.now c.args.other.now _ c.args.i c.args.j
    (rw (← c.self.view_is) (numbers-matrix number c.self.inside.width c.self.inside.rows.items c.self.invariant))
    (rw (← c.other.view_is) (numbers-matrix number c.other.inside.width c.other.inside.rows.items c.other.invariant))
    c.requires.target c.requires.source c.requires.width (returns-clause-row g c)

pub returns-clause-others : goal.returns-clause-others
returns-clause-others g c = λ t k ne. with_row-other c.args.self.now _ c.args.i _ (returns-clause-row g c) t k ne
