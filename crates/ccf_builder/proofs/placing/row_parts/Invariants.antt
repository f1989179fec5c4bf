use Rattle.ccf_builder.proofs.PlacedRows.{IsPlacedTo}
use Rattle.ccf_builder.proofs.placing.row_parts.Given as goal

abbrev pub invariant-loop-pair : goal.invariant-loop-pair
invariant-loop-pair l = IsPlacedTo l.rows l.pairs l.columns l.pair-index l.parts.items
