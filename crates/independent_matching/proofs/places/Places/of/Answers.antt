use Rattle.std.proofs.Common.{◌≡◌, ◌+◌, ◌-◌, ◌≤◌, ◌∙◌, ap, cond, ltb, subst, sym, length, arith}
use Rattle.dense_q.specs.Tables.{height}
use Rattle.mixed_model.specs.Layers.{Layers, layered_matrix_of, split_of}
use Rattle.independent_matching.specs.Changes.{told_equation}
use Rattle.independent_matching.proofs.PlaceLaws.{below-told, chain-told, edit-columns, edit-rows, edit-split, told_places}
use Rattle.independent_matching.specs.Edits.{IsChain}
use Rattle.independent_matching.proofs.places.Places.of.Goals as goal

pub overflow_sub-equations : goal.overflow_sub-equations
overflow_sub-equations g c =
    let R = c.requires.edit in
    omega (arith, c.split-split.ensures.count, c.q_rows.ensures, c.t_rows.ensures, edit-split c.args.change R.L c.args.new.now R.edit)

pub overflow_add-unknowns : goal.overflow_add-unknowns
overflow_add-unknowns g c =
    let R = c.requires.edit in
    let new = c.args.new.now in
    let n : c.q_rows.result + c.t_rows.result - c.split-split.result ≡ height new.q + length new.t.rows - split_of new =
    omega (arith, c.split-split.ensures.count, c.q_rows.ensures, c.t_rows.ensures) in
    let before = c.count_before-before.ensures ∙ (edit-rows c.args.change R.L new R.edit _ n).0 in
    omega (
      arith,
      before,
      (edit-columns c.args.change R.L new R.edit).1,
      R.sizes.q_rows_are,
      R.sizes.t_rows_are,
      c.requires.q_rows,
      c.requires.t_rows,
      c.requires.columns,
    )

pub overflow_sub-unknowns : goal.overflow_sub-unknowns
overflow_sub-unknowns g c =
    let R = c.requires.edit in
    let new = c.args.new.now in
    let n : c.q_rows.result + c.t_rows.result - c.split-split.result ≡ height new.q + length new.t.rows - split_of new =
    omega (arith, c.split-split.ensures.count, c.q_rows.ensures, c.t_rows.ensures) in
    let before = c.count_before-before.ensures ∙ (edit-rows c.args.change R.L new R.edit _ n).0 in
    omega (
      arith,
      before,
      (edit-columns c.args.change R.L new R.edit).0,
      R.sizes.q_rows_are,
      R.sizes.t_rows_are,
      R.sizes.columns_are,
    )

pub overflow_sub-column : goal.overflow_sub-column
overflow_sub-column g c =
    let R = c.requires.edit in
    let new = c.args.new.now in
    let n : c.q_rows.result + c.t_rows.result - c.split-split.result ≡ height new.q + length new.t.rows - split_of new =
    omega (arith, c.split-split.ensures.count, c.q_rows.ensures, c.t_rows.ensures) in
    let e : c.equation_after-equation.result ≤ R.edit.after.rows =
    subst (λ k. k ≤ R.edit.after.rows) (sym c.equation_after-equation.ensures) (edit-rows c.args.change R.L new R.edit _ n).1 in
    below-told c.args.change R.L new c.are_layers.ensures R.edit c.equation_after-equation.result c.q_rows_below-q.result c.t_rows_below-t.result
    e c.q_rows_below-q.ensures.size c.t_rows_below-t.ensures.size

pub overflow_add-unknowns-3 : goal.overflow_add-unknowns-3
overflow_add-unknowns-3 g c =
    let R = c.requires.edit in
    let new = c.args.new.now in
    let n : c.q_rows.result + c.t_rows.result - c.split-split.result ≡ height new.q + length new.t.rows - split_of new =
    omega (arith, c.split-split.ensures.count, c.q_rows.ensures, c.t_rows.ensures) in
    let before = c.count_before-before.ensures ∙ (edit-rows c.args.change R.L new R.edit _ n).0 in
    omega (
      arith,
      before,
      (edit-columns c.args.change R.L new R.edit).1,
      R.sizes.q_rows_are,
      R.sizes.t_rows_are,
      c.requires.q_rows,
      c.requires.t_rows,
      c.requires.columns,
      c.q_rows_below-q.ensures.within,
      c.t_rows_below-t.ensures.within,
      c.are_layers.ensures.q_origins,
      c.are_layers.ensures.t_origins,
      c.q_rows.ensures,
      c.t_rows.ensures,
      subst (λ (l : Layers). height l.q ≤ 8192) c.new.view_is c.is_matrix.ensures.few,
      subst (λ (l : Layers). length l.t.rows ≤ 8192) c.new.view_is c.is_pattern.ensures.few,
    )

pub returns : goal.returns
returns g c L sizes edit =
    let new = c.args.new.now in
    let p = g.F.Field.modulus in
    let n : c.q_rows.result + c.t_rows.result - c.split-split.result ≡ height new.q + length new.t.rows - split_of new =
    omega (arith, c.split-split.ensures.count, c.q_rows.ensures, c.t_rows.ensures) in
    let K = layered_matrix_of new in
    let u = c.args.columns + c.count_before-before.result - (c.args.q_rows + c.args.t_rows) in
    let w = c.columns.result - c.split-split.result in
    let chain = chain-told p c.args.change L new c.are_layers.ensures edit c.equation_after-equation.result c.q_rows_below-q.result
    c.t_rows_below-t.result c.is_one_more-had_q.result c.is_one_more-had_t.result c.has_q_row-has_q.result c.has_t_row-has_t.result
    (record {
      equation = c.equation_after-equation.ensures ∙ ap (told_equation c.args.change) n;
      q_size = c.q_rows_below-q.ensures.size;
      t_size = c.t_rows_below-t.ensures.size;
      has_q = c.has_q_row-has_q.ensures;
      has_t = c.has_t_row-has_t.ensures;
      had_q = c.is_one_more-had_q.ensures ∙ (ap (λ k. ltb k (c.args.q_rows + cond c.has_q_row-has_q.result 1 0)) c.q_rows-2.ensures
          ∙ ap (λ k. ltb (height new.q) (k + cond c.has_q_row-has_q.result 1 0)) (sym sizes.q_rows_are));
      had_t = c.is_one_more-had_t.ensures ∙ (ap (λ k. ltb k (c.args.t_rows + cond c.has_t_row-has_t.result 1 0)) c.t_rows-2.ensures
          ∙ ap (λ k. ltb (length new.t.rows) (k + cond c.has_t_row-has_t.result 1 0)) (sym sizes.t_rows_are));
    }) u w c.count_before-before.result (c.q_rows.result + c.t_rows.result - c.split-split.result) n c.count_before-before.ensures
    (omega (arith, sizes.q_rows_are, sizes.t_rows_are, sizes.columns_are))
    (omega (arith, c.columns.ensures, c.split-split.ensures.count)) in
    let told = told_places c.q_rows_below-q.result c.t_rows_below-t.result
    (c.q_rows_below-q.result + c.t_rows_below-t.result - c.equation_after-equation.result) u w c.is_one_more-had_q.result
    c.is_one_more-had_t.result c.has_q_row-has_q.result c.has_t_row-has_t.result in
    subst (λ o. IsChain p L K (record { out = c.of.result; unknowns = u; unknowns_after = w; put = o })) (sym c.of-2.ensures)
    (subst (λ o. IsChain p L K (record { out = o; unknowns = u; unknowns_after = w; put = told.put })) (sym c.of.ensures) chain)
