use Rattle.std.proofs.Common.{ap, sym, ◌∙◌, ◌%◌}
use Rattle.linear_algebra.specs.Parts.{skip}
use Rattle.linear_algebra_laws.proofs.SkipLaws.{skip-below, skip-unskip, unskip, unskip-below, unskip-skip}
use Rattle.tableau_edit_laws.proofs.laws.bases_leave_rows.Goals as goal

pub returns : goal.returns
returns c p m n P B C row k kl base others = record {
  row_below = λ b bl h. unskip-below k (row b) m kl (base.row_below b bl (others b bl h).0) (others b bl h).1;
  one = λ b bl h. ap (λ i. P i b % p) (skip-unskip k (row b) (others b bl h).1) ∙ base.one b bl (others b bl h).0;
  zero = λ b i bl h il ne. base.zero b (skip k i) bl (others b bl h).0 (skip-below k i m kl il)
      (λ q. ne (sym (unskip-skip k i) ∙ ap (λ t. unskip k t) q));
  distinct = λ b d bl dl bh dh q. base.distinct b d bl dl (others b bl bh).0 (others d dl dh).0
      (sym (skip-unskip k (row b) (others b bl bh).1) ∙ ap (λ t. skip k t) q ∙ skip-unskip k (row d) (others d dl dh).1);
}
