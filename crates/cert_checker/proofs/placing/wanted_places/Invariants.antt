use Rattle.cert_checker.specs.Placing.{ArePlacedRows}
use Rattle.cert_checker.proofs.placing.wanted_places.Given as goal

abbrev pub invariant-loop-pair : goal.invariant-loop-pair
invariant-loop-pair l = ArePlacedRows l.rows l.pairs l.columns l.last l.pair-index l.places.items
