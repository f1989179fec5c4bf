use Rattle.std.proofs.Common.{◌≡◌, ◌≢◌, true, inl, inr, sym, subst, ◌∙◌, arith}
use Rattle.residue_theory.proofs.SumLaws.{nat_cases}
use Rattle.bit_table.specs.Bits.{bit_in}
use Rattle.row_table.specs.RowTables.{p_part}
use Rattle.row_transform.proofs.dense.list_row.Goals as goal

pub loop-col-preserved : goal.loop-col-preserved
loop-col-preserved g c =
    let I = c.loop-col.invariant in
    let E = c.list_entry.ensures in
    let p = g.F.Field.modulus in
    let row = c.args.row in
    let now = c.list_entry.new.entries.bits in
    record {
      size = record { rows_same = E.size.rows_same ∙ I.size.rows_same; size_same = E.size.size_same ∙ I.size.size_same };
      listed = λ j jl ne. elim (nat_cases j c.loop-col.col) [
        | inl q ↦ subst (λ u. bit_in now u row ≡ true) (sym q) (E.listed (subst (λ u. p_part p c.args.table.now row u ≢ 0) q ne))
        | inr apart ↦ E.kept row j (omega (arith, I.size.size_same, c.requires.size.rows_fit, c.requires.row))
            (I.listed j (omega arith) ne)
      ];
      kept = λ i j il h. E.kept i j (omega (arith, I.size.size_same, il)) (I.kept i j il h);
    }
