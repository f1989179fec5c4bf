-- What a unit adds to a flowsheet: unknowns of its own, and equations.
use Rattle.std.specs.Prelude.{ℕ, ◌-◌, ◌%◌, Bool, true, false, List, [], ◌∷◌, ◌++◌, map, nat_eq, if◌then◌else◌}
use Rattle.std.specs.List.{flat_map}
use Rattle.term_model.specs.Systems.{System}
use Rattle.term_model.specs.Terms.{Term}

-- what an equation has at an unknown: a constant or a symbol
pub record Summand : Type 0 where
  pub unknown : List ℕ
  pub constant : ℕ
  pub symbol : Bool

pub record UnitEquation : Type 0 where
  pub name : List ℕ
  pub summands : List Summand

pub record UnitPart : Type 0 where
  pub unknowns : List (List ℕ)
  pub equations : List UnitEquation

-- a constant at an unknown
abbrev pub times : ℕ → List ℕ → Summand
times constant unknown = record { unknown = unknown; constant = constant; symbol = false }

-- a symbol at an unknown
abbrev pub open_at : List ℕ → Summand
open_at unknown = record { unknown = unknown; constant = 0; symbol = true }

-- minus a number modulo p at an unknown: a 0 is no entry
abbrev pub less : ℕ → ℕ → List ℕ → List Summand
less p number unknown = if nat_eq ((p - number) % p) 0 then [] else times ((p - number) % p) unknown ∷ []

abbrev pub equation : List ℕ → List Summand → UnitEquation
equation name summands = record { name = name; summands = summands }

-- the terms of an equation
abbrev pub equation_terms : UnitEquation → List Term
equation_terms equation = map (λ summand. record {
  equation = equation.name;
  unknown = summand.unknown;
  constant = summand.constant;
  symbol = summand.symbol;
}) equation.summands

-- a part as a system of equations
abbrev pub system_of : UnitPart → System
system_of part = record {
  equations = map (λ equation. equation.name) part.equations;
  unknowns = part.unknowns;
  terms = flat_map equation_terms part.equations;
}

-- a system and what is added to it
abbrev pub together : System → System → System
together system more = record {
  equations = system.equations ++ more.equations;
  unknowns = system.unknowns ++ more.unknowns;
  terms = system.terms ++ more.terms;
}
