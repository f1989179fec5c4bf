use Rattle.std.proofs.Common.{◌≡◌, map, take}
use Rattle.std.specs.String.{string_bytes}
use Rattle.toml.specs.Data.{get_member}
use Rattle.toml.specs.View.{table_view}
use Rattle.flowsheet_reader.specs.Units.{coefficient_of}
use Rattle.flowsheet_reader.proofs.unit_keys.coefficients.Given as goal

abbrev pub invariant-loop-component : goal.invariant-loop-component
invariant-loop-component g l =
    map g.F.Field.number l.made.items
    ≡ map (λ component. coefficient_of g.F.Field.modulus (get_member (string_bytes component) (table_view l.table)))
    (take l.component-index l.component-items)
