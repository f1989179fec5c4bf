use Rattle.std.proofs.Common.{◌<◌, ap, length, arith}
use Rattle.std.proofs.lemmas.Grind.{common_steps}
use Rattle.dense_q.specs.Tables.{height}
use Rattle.dense_q.proofs.TableLaws.{numbers-plus_multiple, numbers-matrix, row_added}
use Rattle.dense_q.proofs.matrix.Mat.add_row.Goals as goal

pub returns-clause-row : goal.returns-clause-row
returns-clause-row g c =
    let target : c.args.i < length c.self.inside.rows.items = grind (arith, common_steps, ap height c.self.view_is) in
    let source : c.args.j < length c.self.inside.rows.items = grind (arith, common_steps, ap height c.self.view_is) in
    rw (← c.self.view_is) (ap (λ rs. record { width = c.self.inside.width; rows = rs })
    (numbers-plus_multiple g.F.Field.number g.F.Field.modulus (g.F.Field.number c.args.c) c.self.inside.rows.items
    c.args.i c.args.j c.index_mut.result.now c.replace-target.result c.index.result.now c.replace-target.new.dest
    c.deref_mut.result.now c.add_scaled.new.dst c.deref.result.now target source c.requires.apart
    c.index_mut.ensures.value c.replace-target.ensures.value c.index.ensures
    c.deref_mut.ensures.value c.deref.ensures.value c.add_scaled.auto.dst c.add_scaled.ensures))

pub returns-clause-added : goal.returns-clause-added
returns-clause-added g c =
    row_added g.F.Field.modulus (g.F.Field.number c.args.c) c.args.self.now c.args.i c.args.j
    (rw (← c.self.view_is) (numbers-matrix g.F.Field.number c.self.inside.width c.self.inside.rows.items
    c.self.invariant)) c.requires.target c.requires.source _ (returns-clause-row g c)
