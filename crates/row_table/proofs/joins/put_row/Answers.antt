use Rattle.std.proofs.Common.{◌≡◌, ◌+◌, ◌<◌, false, cond, ltb, map, slice_index, inl, inr, ap, sym, subst, ◌∙◌, arith}
use Rattle.residue_theory.proofs.SumLaws.{nat_cases}
use Rattle.row_table.specs.Layouts.{layout_places}
use Rattle.row_table.specs.PutOffs.{Kept, actual}
use Rattle.row_table.proofs.PutOffLaws.{shape-trans, value-at}
use Rattle.row_table.proofs.JoinLaws.{put-last, put-next}
use Rattle.row_table.proofs.joins.put_row.Goals as goal

pub loop-c-preserved : goal.loop-c-preserved
loop-c-preserved g c =
    let p = g.F.Field.modulus in
    let I = c.loop-c.invariant in
    let at = c.loop-c.c in
    let items = c.args.items.now in
    let now : Kept = c.put_one.new.table in
    let row = c.args.row in
    let places = layout_places c.args.places.now in
    let item : g.F.Field.number c.index-items-c.result ≡ slice_index (map g.F.Field.number items) at =
    value-at g.F.Field.number items at c.index-items-c.result (omega (arith, c.loop-c-test.true)) c.index-items-c.is in
    record {
      shape = shape-trans now c.loop-c.table c.args.table.now c.put_one.ensures.shape I.shape;
      settled = c.put_one.ensures.settled;
      small = λ d dl. elim (nat_cases d at) [
        | inl q ↦ subst (λ k. slice_index (map g.F.Field.number items) k < p) (sym q)
            (subst (λ x. x < p) item c.in_field.ensures)
        | inr ne ↦ I.small d (omega arith)
      ];
      here = λ d dl free. elim (nat_cases d at) [
        | inl q ↦ ap (λ k. actual p now row (places.slot k)) q
            ∙ c.put_one.ensures.here (subst (λ k. places.is_unit k ≡ false) q free) ∙ item
            ∙ ap (λ k. slice_index (map g.F.Field.number items) k) (sym q)
            ∙ subst (λ k. slice_index (map g.F.Field.number items) d ≡ cond (ltb d (k + 1))
            (slice_index (map g.F.Field.number items) d) 0) q (put-last d (slice_index (map g.F.Field.number items) d))
        | inr ne ↦ c.put_one.ensures.other_columns d dl ne free ∙ I.here d dl free
            ∙ put-next d at (slice_index (map g.F.Field.number items) d) ne
      ];
      other_rows = λ i j il jl ne. c.put_one.ensures.other_rows i j (omega (arith, I.shape.rows_same))
          (omega (arith, I.shape.columns_same)) ne ∙ I.other_rows i j il jl ne;
    }
