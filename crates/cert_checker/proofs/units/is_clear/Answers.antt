use Rattle.std.proofs.Common.{◌≡◌, ◌⊎◌, slice_index, inl, inr, ap, sym, subst, ◌∙◌, arith}
use Rattle.residue_theory.proofs.SumLaws.{nat_cases}
use Rattle.cert_text.specs.Contents.{numbered}
use Rattle.cert_text.specs.Readings.{pair_at}
use Rattle.cert_checker.proofs.NumberedRows.{key_is}
use Rattle.cert_checker.proofs.units.is_clear.Goals as goal
use Rattle.cert_checker.proofs.units.is_clear.Goals.{else-mark-rows-via-then-mark-rows+else-mark-i, else-mark-rows-via-else-mark-rows}

pub loop-entry-preserved : goal.loop-entry-preserved
loop-entry-preserved g c k low =
    let marks = c.args.marks.now in
    let printed = numbered g.F.Field.number c.args.row.now in
    let n = c.loop-entry.entry-index in
    let key = key_is g.F.Field.number c.args.row.now n c.entry-item.result c.loop-entry-test.true c.entry-item.is in
    elim (nat_cases k n) [
      | inl same ↦ subst (λ i. (slice_index marks (pair_at printed i).0 ≡ c.args.rows) ⊎ (slice_index marks (pair_at printed i).0 ≡ c.args.i)) (sym same)
          (elim c.else-mark-rows.branch [
            | else-mark-rows-via-then-mark-rows+else-mark-i w ↦ inr (ap (λ x. slice_index marks x) key ∙ w.if-mark-i.false)
            | else-mark-rows-via-else-mark-rows w ↦ inl (ap (λ x. slice_index marks x) key ∙ w.if-mark-rows.false)
          ])
      | inr other ↦ c.loop-entry.invariant k (omega (arith, low, other))
    ]

pub returns-then-mark-i : goal.returns-then-mark-i
returns-then-mark-i g c = (
  λ f. absurd (cc),
  λ clear.
      let n = c.loop-entry.entry-index in
      let at = key_is g.F.Field.number c.args.row.now n c.entry-item.result c.loop-entry-test.true c.entry-item.is in
      elim (clear n c.loop-entry-test.true) [
        | inl none ↦ absurd (c.if-mark-rows.true (sym (ap (λ x. slice_index c.args.marks.now x) at) ∙ none))
        | inr own ↦ absurd (c.if-mark-i.true (sym (ap (λ x. slice_index c.args.marks.now x) at) ∙ own))
      ],
)
