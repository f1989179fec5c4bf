use Rattle.std.proofs.Common.{ap, sym, ◌∙◌}
use Rattle.linear_algebra.specs.Parts.{skip}
use Rattle.linear_algebra_laws.proofs.SkipLaws.{skip-below, unskip, unskip-skip}
use Rattle.tableau_edit_laws.proofs.laws.columns_leave_tableaus.Goals as goal

pub returns : goal.returns
returns c p m n a S P B row v vl same base none = (
  λ i j il jl. same i (skip v j) il (skip-below v j n vl jl),
  record {
    row_below = λ b bl h. base.row_below (skip v b) (skip-below v b n vl bl) h;
    one = λ b bl h. base.one (skip v b) (skip-below v b n vl bl) h;
    zero = λ b i bl h il ne. base.zero (skip v b) i (skip-below v b n vl bl) h il ne;
    distinct = λ b d bl dl bh dh q. sym (unskip-skip v b)
        ∙ ap (λ t. unskip v t) (base.distinct (skip v b) (skip v d) (skip-below v b n vl bl) (skip-below v d n vl dl) bh dh q)
        ∙ unskip-skip v d;
  },
)
