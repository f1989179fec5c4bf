use Rattle.closed_sets.proofs.BlockOrder.{below-order}
use Rattle.closed_sets.proofs.Covers.{below-chain}
use Rattle.mixed_matrices.specs.Arcs.{is_end, is_free, leads_to}
use Rattle.mixed_matrices.specs.CheckerRules.{block_of}
use Rattle.mixed_form_laws.proofs.CheckedForms.{checked-ordered}
use Rattle.mixed_form_laws.proofs.CheckedParts.{checked-listing}
use Rattle.mixed_form_laws.proofs.form_laws.checked_parts_are_ordered.Goals as goal

pub returns : goal.returns
returns c p prime L S U F tab G below lower K = (
  checked-ordered p prime L S U F tab G below lower K,
  λ k l kl ll ne none. checked-ordered p prime L S U F tab G below lower K k l kl ll ne
      (λ h. none (below-chain below G.blocks (below-order (leads_to p L F) L.columns (is_free F) (is_end p L F) (block_of G) G.blocks
      (checked-listing p L F G below lower K) below K.order) lower K.lists k l kl ll h)),
)
