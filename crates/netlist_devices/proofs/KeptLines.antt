-- The devices of lines that keep the rules make a circuit.
use Rattle.std.proofs.Common.{◌≡◌, ℕ, ◌<◌, ◌≤◌, Bool, true, false, cond, not, ◌&&◌, ◌||◌, List, [], ◌∷◌, ◌++◌}
use Rattle.std.proofs.Common.{length, take, drop, length-drop, Option, Some, None, Result, Ok, Err, refl, sym, ap, subst}
use Rattle.std.proofs.Common.{◌∙◌, arith, eqb, eqb-true, leb, leb-true}
use Rattle.std.specs.List.{IsDistinct, list_all}
use Rattle.std.specs.Option.{option_map, option_or, option_to_list}
use Rattle.std.specs.Result.{result_unwrap_or}
use Rattle.std.proofs.lemmas.Grind.{flat_map-append}
use Rattle.std.proofs.lemmas.List.{append-nil, length-take-le}
use Rattle.std.proofs.lemmas.List.Sums.{AllPass-from_list_all}
use Rattle.refusals.specs.declared.Why.{Why}
use Rattle.refusals.specs.declared.Why.TheVariants.{BadName, BadShape, TooMany, Twice}
use Rattle.residue_theory.specs.Residues.{IsPrime}
use Rattle.line_lexer.specs.Names.{is_name, is_node}
use Rattle.line_lexer.specs.Numbers.{number_of}
use Rattle.line_lexer.proofs.ResidueBounds.{number-below}
use Rattle.line_reader.proofs.Deciding.{both_kept, wanted}
use Rattle.mixed_model.specs.Names.{has_name}
use Rattle.netlist_devices.specs.declared.kind.DeviceKind.{DeviceKind}
use Rattle.netlist_devices.specs.Circuits.{IsCircuit, IsDevice, CircuitParts}
use Rattle.netlist_devices.specs.Devices.{Device, device_in, device_names, device_of, devices_in, from_name, ends_with_number, has_source}
use Rattle.netlist_devices.specs.Devices.{is_directive, kind_of, nodes_of, nodes_wanted, word_after_nodes, words_wanted}
use Rattle.netlist_devices.specs.ReaderStates.{has_room}
use Rattle.netlist_devices.specs.Rules.{device_rule, kind_rule, name_rule, new_rule, number_rule, place_rule, room_rule}
use Rattle.netlist_devices.specs.Rules.{shape_rule, words_rule}
use Rattle.netlist_devices.specs.EquationNames.{equation_words, own_names, unknown_words}
use Rattle.netlist_devices.proofs.CircuitSteps.{circuit-push, names-push, own_names-push, room_is}
use Rattle.netlist_devices.proofs.NodeSteps.{nodes_of-push}

-- the parts of some devices, whatever their lines are
abbrev pub parts_of : List Device → CircuitParts
parts_of devices = record {
  devices = devices;
  lines = [];
  names = device_names devices;
  nodes = nodes_of devices;
  own_equations = length (own_names equation_words devices);
  own_unknowns = length (own_names unknown_words devices);
}

pub no_devices : (p : ℕ) → IsCircuit p (parts_of [])
unfolding IsDistinct
no_devices p = record {
  devices = λ i d at. absurd (omega arith);
  distinct = tt;
  names = refl;
  nodes = refl;
  own_equations = refl;
  own_unknowns = refl;
  few_equations = omega arith;
  few_unknowns = omega arith;
}

not_there : (b : Bool) → not b ≡ true → b ≡ false
not_there false e = refl
not_there true e = absurd cc

both_hold : (a b : Bool) → (a && b) ≡ true → (a ≡ true) × (b ≡ true)
both_hold true b e = (refl, e)
both_hold false b e = absurd cc

-- a device that keeps the rule of its place
one_device : (p : ℕ) (devices : List Device) (device : Device) → IsCircuit p (parts_of devices) → IsDevice p device →
    place_rule devices device ≡ None → IsCircuit p (parts_of (devices ++ device ∷ []))
one_device p devices device circuit good kept =
    let all = devices ++ device ∷ [] in
    let both = both_kept (new_rule devices device) (room_rule all) kept in
    let fresh = not_there (has_name (device_names devices) device.name) (wanted (not (has_name (device_names devices) device.name)) Twice both.0) in
    let equations = own_names-push equation_words devices device in
    let unknowns = own_names-push unknown_words devices device in
    let nodes = nodes_of-push devices device in
    let roomy : has_room (length (nodes_of all)) (length (own_names equation_words all)) (length (own_names unknown_words all)) ≡ true =
    wanted (has_room (length (nodes_of all)) (length (own_names equation_words all)) (length (own_names unknown_words all))) TooMany
    (sym (room_is devices device (nodes_of all) (length (own_names equation_words all)) (length (own_names unknown_words all)) nodes equations unknowns)
    ∙ both.1) in
    circuit-push p (parts_of devices) (parts_of all) device circuit good fresh refl (names-push devices device) nodes equations unknowns roomy

-- words that keep the rule of shape are enough
enough : (directive : Bool) (count many : ℕ) → cond directive (eqb count many) (leb many count) ≡ true → many ≤ count
enough true count many fits = let same : count ≡ many = eqb-true count many fits in omega arith
enough false count many fits = leb-true many count fits

nodes_counted : (kind : DeviceKind) (words : List (List ℕ)) → shape_rule kind words ≡ None →
    length (take (nodes_wanted kind) (drop 1 words)) ≡ nodes_wanted kind
nodes_counted kind words kept =
    let many = enough (is_directive kind) (length words) (words_wanted kind)
    (wanted (cond (is_directive kind) (eqb (length words) (words_wanted kind)) (leb (words_wanted kind) (length words))) BadShape kept) in
    length-take-le (nodes_wanted kind) (drop 1 words) (omega (arith, many, length-drop 1 words))

number_small : (p : ℕ) → IsPrime p → (has : Bool) (text : List ℕ) → cond has (result_unwrap_or (number_of p text) 0) 0 < p
number_small p prime false text = omega (arith, prime.above_one)
number_small p prime true text = by (number_of p text) refl
  where
    by : (read : Result ℕ Why) → number_of p text ≡ read → result_unwrap_or read 0 < p
    by (Ok n) e = number-below p prime text n e
    by (Err why) e = omega (arith, prime.above_one)

-- a device that keeps the rules of a line
device_good : (p : ℕ) → IsPrime p → (kind : DeviceKind) (words : List (List ℕ)) → shape_rule kind words ≡ None →
    name_rule (device_of p kind words) ≡ None → IsDevice p (device_of p kind words)
device_good p prime kind words shape named =
    let device = device_of p kind words in
    let all = wanted (is_name device.name && list_all is_node device.nodes && (not (has_source kind) || is_name device.source)) BadName named in
    let front = both_hold (is_name device.name && list_all is_node device.nodes) (not (has_source kind) || is_name device.source) all in
    let names = both_hold (is_name device.name) (list_all is_node device.nodes) front.0 in
    record {
      name = names.0;
      nodes = AllPass-from_list_all is_node device.nodes names.1;
      nodes_wanted = nodes_counted kind words shape;
      number = number_small p prime (ends_with_number kind) (word_after_nodes kind words);
    }

one_kind : (p : ℕ) → IsPrime p → (devices : List Device) (kind : DeviceKind) (words : List (List ℕ)) → IsCircuit p (parts_of devices) →
    device_rule p devices kind words ≡ None → IsCircuit p (parts_of (devices ++ device_of p kind words ∷ []))
one_kind p prime devices kind words circuit kept =
    let device = device_of p kind words in
    let number = number_rule p kind (word_after_nodes kind words) in
    let first = both_kept (shape_rule kind words) (option_or (name_rule device) (option_or number (place_rule devices device))) kept in
    let second = both_kept (name_rule device) (option_or number (place_rule devices device)) first.1 in
    let third = both_kept number (place_rule devices device) second.1 in
    one_device p devices device circuit (device_good p prime kind words first.0 second.0) third.1

-- A line more that keeps the rule of words.
pub one_line : (p : ℕ) → IsPrime p → (before : List (List (List ℕ))) (words : List (List ℕ)) → IsCircuit p (parts_of (devices_in p before)) →
    words_rule p before words ≡ None → IsCircuit p (parts_of (devices_in p (before ++ words ∷ [])))
one_line p prime before words circuit kept =
    subst (λ devices. IsCircuit p (parts_of devices))
    (sym (flat_map-append (device_in p) before (words ∷ []) ∙ ap (λ more. devices_in p before ++ more) (append-nil (device_in p words))))
    (here words kept)
  where
    here : (words : List (List ℕ)) → words_rule p before words ≡ None → IsCircuit p (parts_of (devices_in p before ++ device_in p words))
    here [] kept = subst (λ devices. IsCircuit p (parts_of devices)) (sym (append-nil (devices_in p before))) circuit
    here (word ∷ words) kept = by (kind_of word) kept
      where
        by : (kind : Option DeviceKind) → kind_rule p (devices_in p before) kind (word ∷ words) ≡ None →
            IsCircuit p (parts_of (devices_in p before ++ option_to_list
            (option_map (λ kind. device_of p kind (from_name kind (word ∷ words))) kind)))
        by None broken = absurd cc
        by (Some kind) kept = one_kind p prime (devices_in p before) kind (from_name kind (word ∷ words)) circuit kept
