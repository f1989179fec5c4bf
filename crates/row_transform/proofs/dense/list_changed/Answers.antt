use Rattle.std.proofs.Common.{◌≡◌, ◌≢◌, ◌%◌, true, inl, inr, sym, subst, ◌∙◌, arith}
use Rattle.residue_theory.proofs.SumLaws.{nat_cases}
use Rattle.bit_table.specs.Bits.{bit_in}
use Rattle.row_table.specs.RowTables.{s_part}
use Rattle.row_transform.proofs.dense.list_changed.Goals as goal

pub loop-i-preserved : goal.loop-i-preserved
loop-i-preserved g c =
    let I = c.loop-i.invariant in
    let E = c.list_if_changed.ensures in
    let p = g.F.Field.modulus in
    let at = c.args.at in
    let row = c.args.row in
    let now = c.list_if_changed.new.entries.bits in
    record {
      size = record { rows_same = E.size.rows_same ∙ I.size.rows_same; size_same = E.size.size_same ∙ I.size.size_same };
      joined = λ i j il jl ne h.
          let before = I.kept row j (omega (arith, c.requires.size.rows_fit, c.requires.row)) h in
          elim (nat_cases i c.loop-i.i) [
            | inl q ↦ subst (λ u. bit_in now j u ≡ true) (sym q)
                (E.joined j jl (subst (λ u. s_part p c.args.table.now u at % p ≢ 0) q ne) before)
            | inr apart ↦ E.kept i j (omega (arith, I.size.size_same, c.requires.size.rows_fit, c.rows-i-end.ensures.rows, c.loop-i-test.true, il))
                (I.joined i j (omega arith) jl ne h)
          ];
      kept = λ i j il h. E.kept i j (omega (arith, I.size.size_same, il)) (I.kept i j il h);
    }
