use Rattle.std.proofs.Common.{◌≡◌, ◌+◌, ◌<◌, ap, sym, subst, ◌∙◌, arith, inl, inr, length, map, set, slice_index}
use Rattle.std.proofs.lemmas.List.{get_or-set_other, get_or-set_same, get_or_past, length-map, map-set}
use Rattle.residue_theory.proofs.SetLaws.{lt_cases}
use Rattle.residue_theory.proofs.SumLaws.{nat_cases}
use Rattle.row_echelon.proofs.row.clear.Goals as goal

pub loop-column-preserved : goal.loop-column-preserved
loop-column-preserved g c j jl =
    let number = g.F.Field.number in
    let n = c.loop-column.column in
    let row = map number c.loop-column.row in
    let low : n < length row = omega
    (arith, c.loop-column-test.true, c.loop-column.auto.column-end, c.loop-column.auto.row, length-map c.loop-column.row number) in
    ap (λ xs. slice_index xs j) (map-set number c.loop-column.row n c.zero.result)
    ∙ elim (nat_cases j n) [
      | inl q ↦ ap (λ k. slice_index (set row n (number c.zero.result)) k) q ∙ get_or-set_same row n (number c.zero.result) 0 low ∙ c.zero.ensures
      | inr ne ↦ get_or-set_other row n j (number c.zero.result) 0 ne ∙ c.loop-column.invariant j (omega (arith, jl, ne))
    ]

pub returns : goal.returns
returns g c j =
    let number = g.F.Field.number in
    elim (lt_cases j c.loop-column.column) [
      | inl l ↦ c.loop-column.invariant j l
      | inr le ↦ get_or_past (map number c.loop-column.row) j 0 (omega
          (arith, le, c.loop-column-test.false, c.loop-column.auto.row, length-map c.loop-column.row number))
    ]
