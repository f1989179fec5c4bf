-- The places of a device of a circuit.
use Rattle.std.proofs.Common.{◌≡◌, ℕ, ◌+◌, ◌<◌, All, true, List, map, length, get_or, codes, sym, ap, subst, ◌∙◌, arith}
use Rattle.std.specs.Str.{bytes_eq}
use Rattle.std.proofs.lemmas.List.{length-append, length-map}
use Rattle.std.proofs.lemmas.List.Folds.{list_any_at}
use Rattle.mixed_model.specs.Names.{has_name, name_at}
use Rattle.mixed_model.proofs.NameLaws.{bytes_eq-refl}
use Rattle.term_model.specs.Terms.{dotted}
use Rattle.netlist_devices.specs.Circuits.{AreSourced, CircuitParts, IsCircuit}
use Rattle.netlist_devices.specs.Devices.{Device, has_source, nodes_of}
use Rattle.netlist_devices.specs.EquationNames.{equation_words, equations_of, own_names, unknown_words, unknowns_of}
use Rattle.netlist_devices.specs.Rules.{is_source}
use Rattle.netlist_reader.specs.Numbers.{AreFirsts, DevicePlaces, HasDevicePlaces, IsNode, IsSeen, node_named, numbered_of}
use Rattle.netlist_reader.proofs.Numbering.{at_own, few_before}
use Rattle.netlist_reader.proofs.Placed.{node-seen}
use Rattle.netlist_reader.proofs.Steps.{sourced}

module _ (p : ℕ) (parts : CircuitParts) (circuit : IsCircuit p parts) (are : AreSourced parts.devices) (i : ℕ) (d : Device)
    (within : i < length parts.devices) (is : d ≡ get_or parts.devices i d) where
  pub sourced_there : has_source d.kind ≡ true → is_source parts.devices d.source ≡ true
  sourced_there = sourced p parts.devices circuit.distinct are i d within is

  -- its nodes are the ground or among the circuit's
  pub nodes_seen : All (IsSeen parts.nodes) d.nodes
  nodes_seen j other at above =
      let node = get_or d.nodes j other in
      ap (λ nodes. has_name nodes node) circuit.nodes
      ∙ node-seen parts.devices i d within is sourced_there node record {
        there = list_any_at (bytes_eq node) d.nodes j other at (bytes_eq-refl node);
        above = above;
      }

  pub has_places : (places : DevicePlaces) (equations unknowns : List ℕ) → AreFirsts equation_words parts.devices equations →
      AreFirsts unknown_words parts.devices unknowns → places.equations ≡ get_or equations i 0 → places.unknowns ≡ get_or unknowns i 0 →
      map (node_named parts.nodes) places.nodes ≡ d.nodes → All (IsNode parts.nodes) places.nodes →
      (has_source d.kind ≡ true → name_at (unknowns_of parts.devices) places.source ≡ dotted (codes "i") d.source) →
      HasDevicePlaces (numbered_of parts.devices) d places
  has_places places equations unknowns are_equations are_unknowns first_equation first_unknown named there source =
      let equation = first_equation ∙ are_equations.number i within in
      let unknown = first_unknown ∙ are_unknowns.number i within in
      record {
        few_equations = omega (
          arith,
          equation,
          few_before equation_words parts.devices i d within is,
          length-append (map (dotted (codes "kcl")) (nodes_of parts.devices)) (own_names equation_words parts.devices),
          length-map (nodes_of parts.devices) (dotted (codes "kcl")),
          circuit.few_equations,
        );
        few_unknowns = omega (
          arith,
          unknown,
          few_before unknown_words parts.devices i d within is,
          length-append (map (dotted (codes "u")) (nodes_of parts.devices)) (own_names unknown_words parts.devices),
          length-map (nodes_of parts.devices) (dotted (codes "u")),
          circuit.few_unknowns,
        );
        equations = λ w less. ap (λ n. name_at (equations_of parts.devices) (n + w)) equation
            ∙ at_own (codes "kcl") equation_words (nodes_of parts.devices) parts.devices i w d within is less;
        unknowns = λ w less. ap (λ n. name_at (unknowns_of parts.devices) (n + w)) unknown
            ∙ at_own (codes "u") unknown_words (nodes_of parts.devices) parts.devices i w d within is less;
        nodes = ap (λ nodes. map (node_named nodes) places.nodes) (sym circuit.nodes) ∙ named;
        within = subst (λ nodes. All (IsNode nodes) places.nodes) circuit.nodes there;
        source = source;
      }
