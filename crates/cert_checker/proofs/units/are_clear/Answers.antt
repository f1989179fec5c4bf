use Rattle.std.proofs.Common.{◌≡◌, ℕ, List, [], inl, inr, refl, sym, subst, length, slice_index_or, arith}
use Rattle.residue_theory.proofs.SumLaws.{nat_cases}
use Rattle.cert_text.specs.Contents.{numbered, numbered_rows}
use Rattle.cert_checker.specs.Units.{IsClear}
use Rattle.cert_checker.proofs.NumberedRows.{entry_columns, entry_count, row_is, row_within}
use Rattle.cert_checker.proofs.units.are_clear.Goals as goal

pub is_clear-requires : goal.is_clear-requires
is_clear-requires g c =
    let number = g.F.Field.number in
    let p = g.F.Field.modulus in
    let n = length c.args.marks.now in
    entry_columns number p n c.as_slice.result.now
    (row_within number p (length c.args.p.now) n c.args.p.now c.loop-i.i c.as_slice.result.now c.index-p-i.result
    c.requires c.loop-i-test.true c.as_slice.ensures c.index-p-i.is)

pub returns-then-not-is_clear : goal.returns-then-not-is_clear
returns-then-not-is_clear g c =
    let number = g.F.Field.number in
    let rows = length c.args.p.now in
    let marks = c.args.marks.now in
    let i = c.loop-i.i in
    let slice = c.as_slice.result.now in
    let is : slice_index_or (numbered_rows number c.args.p.now) i [] ≡ numbered number slice =
    row_is number c.args.p.now i slice c.index-p-i.result c.loop-i-test.true c.as_slice.ensures c.index-p-i.is in (
      λ f. absurd (cc),
      λ clear. c.if-not-is_clear.ensures.1 (subst (λ m. IsClear rows marks i (numbered number slice) m) (entry_count number slice)
          (subst (λ (es : List (ℕ × ℕ)). IsClear rows marks i es (length es)) is (clear i c.loop-i-test.true))),
    )

pub loop-i-preserved : goal.loop-i-preserved
loop-i-preserved g c k low =
    let number = g.F.Field.number in
    let rows = length c.args.p.now in
    let marks = c.args.marks.now in
    let i = c.loop-i.i in
    let slice = c.as_slice.result.now in
    let printed = numbered_rows number c.args.p.now in
    let is : slice_index_or printed i [] ≡ numbered number slice =
    row_is number c.args.p.now i slice c.index-p-i.result c.loop-i-test.true c.as_slice.ensures c.index-p-i.is in
    elim (nat_cases k i) [
      | inl same ↦ subst (λ r. IsClear rows marks r (slice_index_or printed r []) (length (slice_index_or printed r []))) (sym same)
          (subst (λ (es : List (ℕ × ℕ)). IsClear rows marks i es (length es)) (sym is)
          (subst (λ m. IsClear rows marks i (numbered number slice) m) (sym (entry_count number slice)) (c.if-not-is_clear.ensures.0 refl)))
      | inr other ↦ c.loop-i.invariant k (omega (arith, low, other))
    ]
