use Rattle.std.proofs.Common.{◌≡◌, map, drop}
use Rattle.toml.specs.View.{view}
use Rattle.document_values.specs.Values.{each, residue_in, numbers_in}
use Rattle.document_values.proofs.values.numbers.Given as goal

abbrev pub invariant-loop-item : goal.invariant-loop-item
invariant-loop-item g l =
    numbers_in g.F.Field.modulus (map view l.items)
    ≡ each (λ found. residue_in g.F.Field.modulus) (map g.F.Field.number l.numbers.items) (map view (drop l.item-index l.items))
