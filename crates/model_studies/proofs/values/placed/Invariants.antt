use Rattle.model_studies.proofs.Placed.{ArePlaced}
use Rattle.model_studies.proofs.values.placed.Given as goal

abbrev pub invariant-loop-index : goal.invariant-loop-index
invariant-loop-index g l = ArePlaced g.F.Field.number l.places l.values l.index l.placed.items
