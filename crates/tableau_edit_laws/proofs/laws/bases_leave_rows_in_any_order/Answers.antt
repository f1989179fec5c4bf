use Rattle.std.proofs.Common.{ap, sym, ◌∙◌, ◌%◌, arith}
use Rattle.tableau_edit_laws.proofs.laws.bases_leave_rows_in_any_order.Goals as goal

pub returns : goal.returns
returns c p m n P B C row now k from rows base others = record {
  row_below = λ b bl h. let below = (others b bl h).1 in omega (arith, below);
  one = λ b bl h. ap (λ i. P i b % p) (others b bl h).2 ∙ base.one b bl (others b bl h).0;
  zero = λ b i bl h il ne. base.zero b (from i) bl (others b bl h).0 (rows.below i (omega arith))
      (λ q. ne (rows.distinct i (now b) (omega arith) (others b bl h).1 (q ∙ sym (others b bl h).2)));
  distinct = λ b d bl dl bh dh q. base.distinct b d bl dl (others b bl bh).0 (others d dl dh).0
      (sym (others b bl bh).2 ∙ ap from q ∙ (others d dl dh).2);
}
