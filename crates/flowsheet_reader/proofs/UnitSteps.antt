-- What a unit adds, step by step.
use Rattle.std.proofs.Common.{◌≡◌, ℕ, List, [], ◌∷◌, codes, Ok, refl}
use Rattle.toml.specs.Data.{Data, Members}
use Rattle.unit_equations.specs.declared.kind.UnitKind.TheVariants.{Reactor}
use Rattle.unit_equations.specs.Kinds.{reactor}
use Rattle.flowsheet_reader.specs.Sheets.{Scope}
use Rattle.flowsheet_reader.specs.Units.{are_coefficients, coefficients, unit_part_in, stream_at}
use Rattle.document_values.specs.Values.{due, members_in, members_of_value}

-- a reactor that keeps each rule
pub reactor-kept : (p : ℕ) (scope : Scope) (unit : List ℕ) (table stoich : Members) (value : Data) (inlet outlet : List ℕ)
    → stream_at scope [] (codes "inlet") table ≡ Ok inlet
    → stream_at scope (inlet ∷ []) (codes "outlet") table ≡ Ok outlet
    → due (codes "stoich") table ≡ Ok value
    → members_of_value value ≡ Ok stoich
    → are_coefficients p scope.components (members_in stoich) ≡ Ok (tt {0})
    → unit_part_in p scope Reactor unit table ≡ Ok (reactor p unit inlet outlet (coefficients p scope.components stoich))
reactor-kept p scope unit table stoich value inlet outlet in_is out_is due_is table_is good =
    rw (in_is, out_is, due_is, table_is, good) refl
