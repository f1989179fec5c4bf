use Rattle.std.proofs.Common.{◌≡◌, arith, rules, length, vec_len, ap, length-append}
use Rattle.std.proofs.lemmas.Slice.Zip.{zip_turn}
use Rattle.dense_q.proofs.MadeLaws.{combined-length, combined-sums}
use Rattle.dense_q.proofs.rows.combination.Goals as goal

pub loop-row-preserved : goal.loop-row-preserved
loop-row-preserved g c =
    let turn = zip_turn c.args.rows.now c.args.coefficients.now c.loop-row.yielded c.into_iter-row-iterator.result
    c.loop-row.row-iterator c.next.new.self c.next.result (search rules) (search rules) c.loop-row.yielded_by
    (c.in-Some.row, c.in-Some.coefficient) c.in-Some.is c.next.ensures.steps in
    let equal : length c.deref_mut.result.now ≡ length c.deref.result.now =
    omega (
      arith,
      c.deref_mut.ensures.len,
      c.deref.ensures.len,
      c.loop-row.sum.ok.0,
      c.loop-row.invariant.length_is,
      ap vec_len (turn.2 c.in-Some.row.now),
      c.requires.full (length c.loop-row.yielded) c.in-Some.row.now turn.0,
    ) in
    record {
      length_is = combined-length g.F.Field.number g.F.Field.modulus c.args.columns (length c.loop-row.yielded)
          c.args.coefficients.now c.args.rows.now c.loop-row.sum c.in-Some.row.now c.in-Some.coefficient.now
          c.deref_mut.result.now c.add_scaled.new.dst c.deref.result.now turn.1 turn.0
          (turn.3 c.in-Some.coefficient.now) (turn.2 c.in-Some.row.now) c.deref_mut.ensures.value
          c.add_scaled.auto.dst c.deref.ensures.value equal c.add_scaled.ensures c.loop-row.invariant.length_is;
      sums = combined-sums g.F.Field.number g.F.Field.modulus c.args.columns (length c.loop-row.yielded)
          c.args.coefficients.now c.args.rows.now c.loop-row.sum c.in-Some.row.now c.in-Some.coefficient.now
          c.deref_mut.result.now c.add_scaled.new.dst c.deref.result.now turn.1 turn.0
          (turn.3 c.in-Some.coefficient.now) (turn.2 c.in-Some.row.now) c.deref_mut.ensures.value
          c.add_scaled.auto.dst c.deref.ensures.value equal c.add_scaled.ensures
          _ (length-append c.loop-row.yielded _) c.loop-row.invariant.length_is c.loop-row.invariant.sums;
    }
