use Rattle.std.proofs.Common.{◌<◌, take, map}
use Rattle.std.specs.List.{All}
use Rattle.model_studies.proofs.solving.are_residues.Given as goal

abbrev pub invariant-loop-value : goal.invariant-loop-value
invariant-loop-value g l = All (λ residue. residue < g.F.Field.modulus) (map g.F.Field.number (take l.value-index l.values))
