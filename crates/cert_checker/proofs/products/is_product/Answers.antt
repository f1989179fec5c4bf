use Rattle.std.proofs.Common.{◌≡◌, [], ◌<◌, inl, inr, refl, ap, sym, subst, ◌∙◌, length, map, slice_index_or, arith}
use Rattle.residue_theory.proofs.SumLaws.{nat_cases}
use Rattle.cert_text.specs.Contents.{numbered, numbered_rows}
use Rattle.cert_text.specs.Ranges.{AreEntries}
use Rattle.cert_checker.specs.Gathering.{IsRowCombination, IsZeroRow}
use Rattle.cert_checker.proofs.NumberedRows.{rows_count, row_is, row_within}
use Rattle.cert_checker.proofs.ProductLaws.{combination_as}
use Rattle.cert_checker.proofs.WrittenBack.{written-back}
use Rattle.cert_checker.proofs.products.is_product.Goals as goal

pub is_combination-requires-clause-coefficients : goal.is_combination-requires-clause-coefficients
is_combination-requires-clause-coefficients g c =
    row_within g.F.Field.number g.F.Field.modulus (length c.args.a.now)
    (length c.args.b.now) c.args.a.now c.loop-i.i c.as_slice.result.now c.index-a-i.result c.requires.a c.loop-i-test.true c.as_slice.ensures c.index-a-i.is

pub is_combination-requires-clause-entries : goal.is_combination-requires-clause-entries
is_combination-requires-clause-entries g c =
    let low : c.loop-i.i < length c.args.c.now = omega (arith, c.loop-i-test.true, rows_count g.F.Field.number c.args.c.now, c.requires.c.count) in
    let long : c.args.columns ≡ length c.deref_mut.result.now = omega (arith, c.deref_mut.ensures.len, c.loop-i.invariant.long) in
    subst (λ n. AreEntries g.F.Field.modulus n (numbered g.F.Field.number c.as_slice-in-loop-i.result.now)) long
    (row_within g.F.Field.number g.F.Field.modulus
    (length c.args.a.now) c.args.columns c.args.c.now c.loop-i.i c.as_slice-in-loop-i.result.now c.index-c-i.result
    c.requires.c low c.as_slice-in-loop-i.ensures c.index-c-i.is)

pub returns-then-not-is_combination : goal.returns-then-not-is_combination
returns-then-not-is_combination g c =
    let number = g.F.Field.number in
    let p = g.F.Field.modulus in
    let i = c.loop-i.i in
    let low : i < length c.args.c.now = omega (arith, c.loop-i-test.true, rows_count number c.args.c.now, c.requires.c.count) in
    let first : slice_index_or (numbered_rows number c.args.a.now) i [] ≡ numbered number c.as_slice.result.now =
    row_is number c.args.a.now i c.as_slice.result.now c.index-a-i.result c.loop-i-test.true c.as_slice.ensures c.index-a-i.is in
    let third : slice_index_or (numbered_rows number c.args.c.now) i [] ≡ numbered number c.as_slice-in-loop-i.result.now =
    row_is number c.args.c.now i c.as_slice-in-loop-i.result.now c.index-c-i.result low c.as_slice-in-loop-i.ensures c.index-c-i.is in
    let long : c.args.columns ≡ length c.deref_mut.result.now = omega (arith, c.deref_mut.ensures.len, c.loop-i.invariant.long) in (
      λ f. absurd (cc),
      λ P. c.if-not-is_combination.ensures.answer.1
          (combination_as p (length c.args.b.now) (numbered_rows number c.args.b.now) c.args.columns
          (length c.deref_mut.result.now) (slice_index_or (numbered_rows number c.args.a.now) i [])
          (numbered number c.as_slice.result.now)
          (slice_index_or (numbered_rows number c.args.c.now) i [])
          (numbered number c.as_slice-in-loop-i.result.now) long first third
          (λ j jl. P i j c.loop-i-test.true jl)),
    )

pub loop-i-preserved : goal.loop-i-preserved
loop-i-preserved g c =
    let number = g.F.Field.number in
    let p = g.F.Field.modulus in
    let i = c.loop-i.i in
    let n = c.args.columns in
    let rows = numbered_rows number c.args.b.now in
    let first = numbered_rows number c.args.a.now in
    let third = numbered_rows number c.args.c.now in
    let new = c.is_combination.new.row in
    let low : i < length c.args.c.now = omega (arith, c.loop-i-test.true, rows_count number c.args.c.now, c.requires.c.count) in
    let same : length new ≡ length c.deref_mut.result.now = c.is_combination.auto.row in
    let long : length c.deref_mut.result.now ≡ n = omega (arith, c.deref_mut.ensures.len, c.loop-i.invariant.long) in
    let written = written-back c.loop-i.row.len new _ (omega (arith, same, c.deref_mut.ensures.len)) in
    record {
      long = ap length written ∙ same ∙ long;
      zero = subst (λ xs. IsZeroRow p n (map number xs)) (sym written)
          (subst (λ m. IsZeroRow p m (map number new)) long (c.if-not-is_combination.ensures.zero refl));
      so_far = λ k kl. elim (nat_cases k i) [
        | inl equal ↦ subst (λ r. IsRowCombination p (length c.args.b.now) n (slice_index_or first r []) rows (slice_index_or third r [])) (sym equal)
            (combination_as p (length c.args.b.now) rows (length c.deref_mut.result.now) n
            (numbered number c.as_slice.result.now) (slice_index_or first i [])
            (numbered number c.as_slice-in-loop-i.result.now) (slice_index_or third i []) long
            (sym (row_is number c.args.a.now i c.as_slice.result.now c.index-a-i.result c.loop-i-test.true c.as_slice.ensures c.index-a-i.is))
            (sym (row_is number c.args.c.now i c.as_slice-in-loop-i.result.now c.index-c-i.result low c.as_slice-in-loop-i.ensures c.index-c-i.is))
            (c.if-not-is_combination.ensures.answer.0 refl))
        | inr other ↦ c.loop-i.invariant.so_far k (omega (arith, kl, other))
      ];
    }
