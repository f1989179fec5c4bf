use Rattle.closed_sets.proofs.BlockOrder.{parts-keep}
use Rattle.mixed_matrices.specs.Arcs.{is_end, is_free, leads_to}
use Rattle.mixed_matrices.specs.CheckerRules.{block_of, in_first, in_last}
use Rattle.mixed_form_laws.proofs.form_laws.parts_of_the_arcs_keep_the_rules.Goals as goal

pub returns : goal.returns
returns c p L F G below lower clear P W covers within rows = record {
  rows = rows;
  rules = parts-keep (leads_to p L F) L.columns (is_free F) (is_end p L F) (block_of G) G.blocks P.listing below W (in_first G) (in_last G) clear P.first
      (λ x l. (P.last x l).0) (λ x l. (P.last x l).1) lower covers within;
  order = W;
  lists = covers;
}
