use Rattle.tableau_edit_laws.proofs.Clearing.{cleared-inverse, cleared-product, zero-elsewhere}
use Rattle.tableau_edit_laws.proofs.laws.pivots_in_s_clear_a_column.Goals as goal

pub returns : goal.returns
returns c p prime m n a S U P T R e k el kl ne inv same s_cleared p_cleared = (
  cleared-inverse p prime m S U T e k el kl ne inv s_cleared,
  cleared-product p prime m n S T k (λ i. S i e) s_cleared a P R kl ne same p_cleared,
  zero-elsewhere p prime m S U T e k el kl ne inv s_cleared,
)
