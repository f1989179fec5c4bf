-- The kinds of units: the keys of each, and what a unit of it adds. A flow is that of a component in a stream.
use Rattle.std.specs.Prelude.{ℕ, ◌-◌, List, [], ◌∷◌, codes, length, map, take, Option, Some, None, if◌then◌else◌}
use Rattle.std.specs.List.{enumerate_from, flat_map, zip}
use Rattle.std.specs.Fmt.{decimal}
use Rattle.std.specs.Str.{bytes_eq}
use Rattle.term_model.specs.Terms.{dotted}
use Rattle.unit_equations.specs.declared.kind.UnitKind.{UnitKind}
use Rattle.unit_equations.specs.declared.kind.UnitKind.TheVariants.{Mixer, Separator, Reactor, Tee, Specification, Balance, Relation}
use Rattle.unit_equations.specs.declared.version.Version.{Version}
use Rattle.unit_equations.specs.declared.version.Version.TheVariants.{One, Two}
use Rattle.unit_equations.specs.Parts.{Summand, UnitEquation, UnitPart, equation, less, open_at, times}

abbrev pub kinds : List (List ℕ × UnitKind)
kinds =
    (codes "mixer", Mixer) ∷ (codes "separator", Separator) ∷ (codes "reactor", Reactor) ∷ (codes "tee", Tee)
    ∷ (codes "spec", Specification) ∷ (codes "balance", Balance) ∷ (codes "relation", Relation) ∷ []

-- the kind beside a word
abbrev pub kind_beside : List ℕ → List (List ℕ × UnitKind) → Option UnitKind
kind_beside word [] = None
kind_beside word (row ∷ rows) = if bytes_eq word row.0 then Some row.1 else kind_beside word rows

-- the keys of a kind
abbrev pub keys_of : Version → UnitKind → List (List ℕ)
keys_of version Mixer = codes "inlets" ∷ codes "outlet" ∷ []
keys_of One Separator = codes "inlet" ∷ codes "top" ∷ codes "bottom" ∷ []
keys_of Two Separator = codes "inlet" ∷ codes "outlets" ∷ []
keys_of version Reactor = codes "inlet" ∷ codes "outlet" ∷ codes "stoich" ∷ []
keys_of One Tee = codes "inlet" ∷ codes "first" ∷ codes "second" ∷ codes "fraction" ∷ []
keys_of Two Tee = codes "inlet" ∷ codes "outlets" ∷ codes "fractions" ∷ []
keys_of version Specification = codes "stream" ∷ codes "component" ∷ []
keys_of version Balance = codes "streams" ∷ []
keys_of version Relation = codes "unknowns" ∷ []

-- the unknown of a component in a stream
abbrev pub flow : List ℕ → List ℕ → List ℕ
flow stream component = dotted (codes "f") (dotted stream component)

-- those of some components in some streams
abbrev pub flows : List (List ℕ) → List (List ℕ) → List (List ℕ)
flows components streams = flat_map (λ stream. map (flow stream) components) streams

-- the name of a unit's equation for a component
abbrev pub own_for : List ℕ → List ℕ → List ℕ → List ℕ
own_for word unit component = dotted word (dotted unit component)

-- and for an outlet of this number: version 1, where one outlet has such an equation, tells no number
abbrev pub outlet_word : Version → List ℕ → ℕ → List ℕ
outlet_word One name number = name
outlet_word Two name number = dotted name (decimal number)

-- some streams' flows of a component, with a constant each
abbrev pub each_times : ℕ → List (List ℕ) → List ℕ → List Summand
each_times constant streams component = map (λ stream. times constant (flow stream component)) streams

-- what comes out is the sum of what goes in
abbrev pub mixer : ℕ → List (List ℕ) → List ℕ → List (List ℕ) → List ℕ → UnitPart
mixer p components unit inlets outlet = record {
  unknowns = [];
  equations = map (λ component. equation (own_for (codes "mix") unit component)
      (times 1 (flow outlet component) ∷ each_times (p - 1) inlets component)) components;
}

-- what goes in is the sum of what comes out
abbrev pub conserved : ℕ → List ℕ → List ℕ → List (List ℕ) → List ℕ → UnitEquation
conserved p unit inlet outlets component =
    equation (own_for (codes "bal") unit component)
    (times 1 (flow inlet component) ∷ each_times (p - 1) outlets component)

-- all but the last of some outlets, numbered from 1
abbrev pub but_last : List (List ℕ) → List (ℕ × List ℕ)
but_last outlets = enumerate_from 1 (take (length outlets - 1) outlets)

-- how a component splits between the inlet and an outlet, by its number, is open
abbrev pub open_split : Version → List ℕ → List ℕ → List ℕ → ℕ × List ℕ → UnitEquation
open_split version unit inlet component outlet =
    equation (outlet_word version (own_for (codes "split") unit component) outlet.0)
    (open_at (flow inlet component) ∷ open_at (flow outlet.1 component) ∷ [])

abbrev pub separator : ℕ → Version → List (List ℕ) → List ℕ → List ℕ → List (List ℕ) → UnitPart
separator p version components unit inlet outlets = record {
  unknowns = [];
  equations = flat_map (λ component. conserved p unit inlet outlets component
      ∷ map (open_split version unit inlet component) (but_last outlets)) components;
}

-- an outlet has this fraction of what goes in, of each component
abbrev pub fixed_split : ℕ → Version → List ℕ → List ℕ → List ℕ → (ℕ × List ℕ) × ℕ → UnitEquation
fixed_split p version unit inlet component split =
    equation (outlet_word version (own_for (codes "tee") unit component) split.0.0)
    (times 1 (flow split.0.1 component) ∷ less p split.1 (flow inlet component))

abbrev pub tee : ℕ → Version → List (List ℕ) → List ℕ → List ℕ → List (List ℕ) → List ℕ → UnitPart
tee p version components unit inlet outlets fractions = record {
  unknowns = [];
  equations = flat_map (λ component. conserved p unit inlet outlets component
      ∷ map (fixed_split p version unit inlet component) (zip (but_last outlets) fractions)) components;
}

-- what comes out is what goes in and what the reaction makes: its extent by the component's coefficient
abbrev pub reactor : ℕ → List ℕ → List ℕ → List ℕ → List (List ℕ × ℕ) → UnitPart
reactor p unit inlet outlet coefficients = record {
  unknowns = dotted (codes "x") unit ∷ [];
  equations = map (λ made. equation (own_for (codes "rea") unit made.0)
      (times 1 (flow outlet made.0) ∷ times (p - 1) (flow inlet made.0)
      ∷ less p made.1 (dotted (codes "x") unit))) coefficients;
}

-- a flow is given
abbrev pub specification : List ℕ → List ℕ → List ℕ → UnitPart
specification unit stream component = record {
  unknowns = [];
  equations = equation (dotted (codes "spec") unit) (times 1 (flow stream component) ∷ []) ∷ [];
}

-- a heat is a combination, whose coefficients are open, of all flows of some streams
abbrev pub balance : List (List ℕ) → List ℕ → List (List ℕ) → UnitPart
balance components unit streams = record {
  unknowns = dotted (codes "q") unit ∷ [];
  equations = equation (dotted (codes "heat") unit)
      (times 1 (dotted (codes "q") unit) ∷ map open_at (flows components streams)) ∷ [];
}

-- an open relation between unknowns
abbrev pub relation : List ℕ → List (List ℕ) → UnitPart
relation unit unknowns = record {
  unknowns = [];
  equations = equation (dotted (codes "rel") unit) (map open_at unknowns) ∷ [];
}
