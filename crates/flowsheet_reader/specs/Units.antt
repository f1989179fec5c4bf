-- What a unit of a document adds to the flowsheet before it, or the first rule that it breaks.
use Rattle.std.specs.Prelude.{ℕ, ◌-◌, List, [], ◌∷◌, codes, length, map, Option, Some, None, Result, Ok}
use Rattle.std.specs.List.{zip}
use Rattle.std.specs.Result.{result_unwrap_or}
use Rattle.refusals.specs.declared.Why.{Why}
use Rattle.refusals.specs.declared.Why.TheVariants.{BadKind, TooMany, Undeclared, UnknownKey}
use Rattle.mixed_model.specs.Names.{has_name}
use Rattle.toml.specs.Data.{Data, Members, get_member}
use Rattle.unit_equations.specs.declared.kind.UnitKind.{UnitKind}
use Rattle.unit_equations.specs.declared.kind.UnitKind.TheVariants.{Mixer, Separator, Reactor, Tee, Specification, Balance, Relation}
use Rattle.unit_equations.specs.declared.version.Version.{Version}
use Rattle.unit_equations.specs.declared.version.Version.TheVariants.{One, Two}
use Rattle.document_values.specs.Chains.{◌>>=◌, keeping, some_or}
use Rattle.unit_equations.specs.Kinds.{balance, keys_of, kind_beside, kinds, mixer, reactor, relation, separator, specification, tee}
use Rattle.unit_equations.specs.Parts.{UnitPart}
use Rattle.flowsheet_reader.specs.Sheets.{Scope, Sheet, has_system_room, scope_of, sheet_with_unit}
use Rattle.document_values.specs.Values.{declared_name, declared_names, due, has_only, list_of_length, list_with, members_in, new_name}
use Rattle.document_values.specs.Values.{residue_in, numbers_in, members_of_value, text_of}

-- the stream at a key, none of those named before in the unit
abbrev pub stream_at : Scope → List (List ℕ) → List ℕ → Members → Result (List ℕ) Why
stream_at scope before key table = due key table >>= declared_name scope.streams before

-- at least so many streams at a key
abbrev pub streams_at : Scope → ℕ → List (List ℕ) → List ℕ → Members → Result (List (List ℕ)) Why
streams_at scope least before key table =
    due key table >>= list_with least >>= declared_names scope.streams before

-- the outlets of a unit with this inlet: two keys in version 1, a list of at least two in version 2
abbrev pub outlets_in : Scope → Version → List ℕ → List ℕ → List ℕ → Members → Result (List (List ℕ)) Why
outlets_in scope One inlet first second table =
    stream_at scope (inlet ∷ []) first table
    >>= (λ one. stream_at scope (inlet ∷ one ∷ []) second table >>= (λ other. Ok (one ∷ other ∷ [])))
outlets_in scope Two inlet first second table = streams_at scope 2 (inlet ∷ []) (codes "outlets") table

-- the fractions of a tee: of each outlet but the last
abbrev pub fractions_in : ℕ → Version → List (List ℕ) → Members → Result (List ℕ) Why
fractions_in p One outlets table = due (codes "fraction") table >>= residue_in p >>= (λ fraction. Ok (fraction ∷ []))
fractions_in p Two outlets table =
    due (codes "fractions") table >>= list_of_length (length outlets - 1) >>= numbers_in p

-- Each key is a component with a number, in the order of the keys.
abbrev pub are_coefficients : ℕ → List (List ℕ) → List (List ℕ × Data) → Result (Unit {0}) Why
are_coefficients p components [] = Ok (tt {0})
are_coefficients p components (entry ∷ entries) =
    keeping (has_name components entry.0) Undeclared (tt {0}) >>= (λ _. residue_in p entry.1)
    >>= (λ _. are_coefficients p components entries)

-- the coefficient that a value is: 0 where none is there
abbrev pub coefficient_of : ℕ → Option Data → ℕ
coefficient_of p None = 0
coefficient_of p (Some datum) = result_unwrap_or (residue_in p datum) 0

-- each component with its coefficient
abbrev pub coefficients : ℕ → List (List ℕ) → Members → List (List ℕ × ℕ)
coefficients p components table =
    zip components (map (λ component. coefficient_of p (get_member component table)) components)

-- what a unit adds, by its kind and its name
abbrev pub unit_part_in : ℕ → Scope → UnitKind → List ℕ → Members → Result UnitPart Why
unit_part_in p scope Mixer unit table =
    streams_at scope 1 [] (codes "inlets") table
    >>= (λ inlets. stream_at scope inlets (codes "outlet") table
    >>= (λ outlet. Ok (mixer p scope.components unit inlets outlet)))
unit_part_in p scope Separator unit table =
    stream_at scope [] (codes "inlet") table
    >>= (λ inlet. outlets_in scope scope.version inlet (codes "top") (codes "bottom") table
    >>= (λ outlets. Ok (separator p scope.version scope.components unit inlet outlets)))
unit_part_in p scope Reactor unit table =
    stream_at scope [] (codes "inlet") table
    >>= (λ inlet. stream_at scope (inlet ∷ []) (codes "outlet") table
    >>= (λ outlet. due (codes "stoich") table >>= members_of_value
    >>= (λ stoich. are_coefficients p scope.components (members_in stoich)
    >>= (λ _. Ok (reactor p unit inlet outlet (coefficients p scope.components stoich))))))
unit_part_in p scope Tee unit table =
    stream_at scope [] (codes "inlet") table
    >>= (λ inlet. outlets_in scope scope.version inlet (codes "first") (codes "second") table
    >>= (λ outlets. fractions_in p scope.version outlets table
    >>= (λ fractions. Ok (tee p scope.version scope.components unit inlet outlets fractions))))
unit_part_in p scope Specification unit table =
    stream_at scope [] (codes "stream") table
    >>= (λ stream. due (codes "component") table >>= declared_name scope.components []
    >>= (λ component. Ok (specification unit stream component)))
unit_part_in p scope Balance unit table =
    streams_at scope 1 [] (codes "streams") table >>= (λ streams. Ok (balance scope.components unit streams))
unit_part_in p scope Relation unit table =
    due (codes "unknowns") table >>= list_with 1 >>= declared_names scope.unknowns []
    >>= (λ unknowns. Ok (relation unit unknowns))

-- the kind that a unit's table tells
abbrev pub kind_in : Members → Result UnitKind Why
kind_in table = due (codes "kind") table >>= text_of >>= (λ word. some_or BadKind (kind_beside word kinds))

-- a unit: its name and what it adds
abbrev pub unit_in : ℕ → Scope → Data → Result (List ℕ × UnitPart) Why
unit_in p scope datum =
    members_of_value datum
    >>= (λ table. due (codes "name") table >>= new_name scope.units
    >>= (λ unit. kind_in table
    >>= (λ kind. keeping (has_only (codes "name" ∷ codes "kind" ∷ keys_of scope.version kind) table) UnknownKey (tt {0})
    >>= (λ _. unit_part_in p scope kind unit table >>= (λ part. Ok (unit, part))))))

-- the flowsheet with a unit more, where there is room for it
abbrev pub extended : Sheet → List ℕ × UnitPart → Result Sheet Why
extended sheet unit =
    keeping (has_system_room (sheet_with_unit sheet unit.0 unit.1).system) TooMany (sheet_with_unit sheet unit.0 unit.1)

-- the flowsheet with a unit more, or the first rule that the unit breaks
abbrev pub add_unit : ℕ → Sheet → Data → Result Sheet Why
add_unit p sheet datum = unit_in p (scope_of sheet) datum >>= extended sheet
