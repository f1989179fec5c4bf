use Rattle.std.proofs.Common.{length, map, slice_index, ◌∙◌, arith}
use Rattle.row_table.specs.Layouts.{layout_places}
use Rattle.row_table.specs.PutOffs.{Kept, actual}
use Rattle.row_table.specs.TableEdits.{taken}
use Rattle.row_table.proofs.PutOffLaws.{shape-trans}
use Rattle.row_table.proofs.JoinLaws.{joined-next}
use Rattle.row_table.proofs.joins.reduce_last.Goals as goal

pub loop-i-preserved : goal.loop-i-preserved
loop-i-preserved g c =
    let p = g.F.Field.modulus in
    let I = c.loop-i.invariant in
    let old : Kept = c.args.table.now in
    let now : Kept = c.reduce_by.new.table in
    let i = c.loop-i.i in
    record {
      shape = shape-trans now c.loop-i.table old c.reduce_by.ensures.shape I.shape;
      here = λ j jl. joined-next p i (actual p c.loop-i.table c.args.row j) (actual p old c.args.row j)
          (actual p c.loop-i.table i j) (actual p now c.args.row j) (taken p (length c.args.items.now)
          (layout_places c.args.places.now).basic (λ k. slice_index (map g.F.Field.number c.args.items.now) k))
          (λ k. actual p old k j) (c.reduce_by.ensures.here j (omega (arith, I.shape.columns_same))) (I.here j jl)
          (I.other_rows i j (omega (arith, c.requires.row, c.loop-i-test.true)) jl (λ q. omega (arith, c.loop-i-test.true)));
      other_rows = λ u j ul jl ne. c.reduce_by.ensures.other_rows u j (omega (arith, I.shape.rows_same))
          (omega (arith, I.shape.columns_same)) ne ∙ I.other_rows u j ul jl ne;
    }
