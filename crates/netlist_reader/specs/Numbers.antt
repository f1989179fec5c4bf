-- Terms by the numbers of their equations and unknowns, and the names that these number.
use Rattle.std.specs.Prelude.{◌≡◌, ℕ, ◌+◌, ◌<◌, ◌≤◌, All, Bool, true, false, List, length, map, take, codes, slice_index_or, Option, Some, None}
use Rattle.std.specs.List.{IsDistinct}
use Rattle.std.specs.Option.{IfSome}
use Rattle.std.specs.Str.{bytes_eq}
use Rattle.limits.specs.Limits.{equation_limit}
use Rattle.mixed_model.specs.Names.{has_name, name_at}
use Rattle.term_model.specs.Terms.{Term, dotted}
use Rattle.netlist_devices.specs.declared.kind.DeviceKind.{DeviceKind}
use Rattle.netlist_devices.specs.Devices.{Device, ground, has_source, is_ground, nodes_of}
use Rattle.netlist_devices.specs.EquationNames.{equation_words, equations_of, own_names, unknown_words, unknowns_of}
use Rattle.netlist_reader.specs.Putting.{put_among}
use Rattle.netlist_reader.specs.Terms.{own}

-- What an equation has at an unknown, by their numbers.
pub record NumberedTerm : Type 0 where
  pub equation : ℕ
  pub unknown : ℕ
  pub constant : ℕ
  pub symbol : Bool

-- the term, by the names of its equation and its unknown
abbrev pub name_term : List (List ℕ) → List (List ℕ) → NumberedTerm → Term
name_term equations unknowns term = record {
  equation = name_at equations term.equation;
  unknown = name_at unknowns term.unknown;
  constant = term.constant;
  symbol = term.symbol;
}

-- its equation and its unknown are there
pub record StandsWithin (equations unknowns : List (List ℕ)) (term : NumberedTerm) : Type 0 where
  pub equation : term.equation < length equations
  pub unknown : term.unknown < length unknowns

-- What numbers stand for: equations, unknowns, and nodes but the ground.
pub record Numbered : Type 0 where
  pub equations : List (List ℕ)
  pub unknowns : List (List ℕ)
  pub nodes : List (List ℕ)

abbrev pub numbered_of : List Device → Numbered
numbered_of devices = record {
  equations = equations_of devices;
  unknowns = unknowns_of devices;
  nodes = nodes_of devices;
}

-- some terms, by their names
unfoldable pub name_terms : Numbered → List NumberedTerm → List Term
name_terms names terms = map (name_term names.equations names.unknowns) terms

-- the name of a node by its number among some, which the ground has not
abbrev pub node_named : List (List ℕ) → Option ℕ → List ℕ
node_named nodes (Some k) = name_at nodes k
node_named nodes None = ground

abbrev pub IsNode : List (List ℕ) → Option ℕ → Type 0
IsNode nodes node = IfSome node (λ k. k < length nodes)

-- a node that is the ground or one of these
abbrev pub IsSeen : List (List ℕ) → List ℕ → Type 0
IsSeen nodes node = is_ground node ≡ false → has_name nodes node ≡ true

-- Each node has the number of its voltage and of the equation of its currents.
pub record NumbersNodes (names : Numbered) : Type 0 where
  pub distinct : IsDistinct bytes_eq names.nodes
  pub above : (k : ℕ) → k < length names.nodes → is_ground (name_at names.nodes k) ≡ false
  pub equations : (k : ℕ) → k < length names.nodes
      → name_at names.equations k ≡ dotted (codes "kcl") (name_at names.nodes k)
  pub unknowns : (k : ℕ) → k < length names.nodes
      → name_at names.unknowns k ≡ dotted (codes "u") (name_at names.nodes k)

-- Where the terms of a device stand: the first of its own equations and of its own unknowns, its nodes and its source's
-- current.
pub record DevicePlaces : Type 0 where
  pub equations : ℕ
  pub unknowns : ℕ
  pub nodes : List (Option ℕ)
  pub source : ℕ

-- these are a device's
pub record HasDevicePlaces (names : Numbered) (device : Device) (places : DevicePlaces) : Type 0 where
  pub few_equations : places.equations ≤ equation_limit
  pub few_unknowns : places.unknowns ≤ equation_limit
  pub equations : (w : ℕ) → w < length (equation_words device.kind)
      → name_at names.equations (places.equations + w) ≡ own device (name_at (equation_words device.kind) w)
  pub unknowns : (w : ℕ) → w < length (unknown_words device.kind)
      → name_at names.unknowns (places.unknowns + w) ≡ own device (name_at (unknown_words device.kind) w)
  pub nodes : map (node_named names.nodes) places.nodes ≡ device.nodes
  pub within : All (IsNode names.nodes) places.nodes
  pub source : has_source device.kind ≡ true → name_at names.unknowns places.source ≡ dotted (codes "i") device.source

-- What is put of a device of a kind at these places.
abbrev pub put_at : ℕ → DeviceKind → Numbered → DevicePlaces → ℕ → List Term
put_at p kind names places number =
    put_among p kind (λ w. name_at names.equations (places.equations + w))
    (λ w. name_at names.unknowns (places.unknowns + w))
    (λ k. node_named names.nodes (slice_index_or places.nodes k None)) (name_at names.unknowns places.source) number

-- The numbers of the first own name of each device: the names of the nodes stand before them.
pub record AreFirsts (words : DeviceKind → List (List ℕ)) (devices : List Device) (firsts : List ℕ) : Type 0 where
  pub each : length firsts ≡ length devices
  pub number : (k : ℕ) → k < length devices
      → slice_index_or firsts k 0 ≡ length (nodes_of devices) + length (own_names words (take k devices))
