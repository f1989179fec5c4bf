-- The nodes and the own names of a netlist's devices are no more than its bytes.
use Rattle.std.proofs.Common.{◌≡◌, ℕ, suc, ◌+◌, ◌-◌, ◌*◌, ◌≤◌, Bool, true, false, cond, not, List, [], ◌∷◌, ◌++◌}
use Rattle.std.proofs.Common.{length, map, filter, take, drop, codes, Option, Some, None, refl, ap, subst, arith}
use Rattle.std.proofs.Common.{length-drop, length-take, if◌then◌else◌, nat_eq, nat_le, leb-true, eqb-true}
use Rattle.std.specs.List.{All, flat_map}
use Rattle.std.specs.Option.{option_or, option_map, option_to_list}
use Rattle.std.proofs.lemmas.List.{length-append, length-map, get_or_default}
use Rattle.std.proofs.lemmas.List.Elements.{All-head, All-tail}
use Rattle.refusals.specs.declared.Why.{Why}
use Rattle.refusals.specs.declared.Why.TheVariants.{BadByte, BadShape}
use Rattle.line_lexer.specs.Lines.{lines_of}
use Rattle.line_lexer.specs.Tokens.{is_clean}
use Rattle.line_reader.specs.LineRules.{is_remark, content, words_in, line_rule, KeepsAll}
use Rattle.mixed_model.specs.Models.{MixedModel}
use Rattle.term_model.specs.Terms.{dotted}
use Rattle.netlist_devices.specs.declared.kind.DeviceKind.{DeviceKind}
use Rattle.netlist_devices.specs.declared.kind.DeviceKind.TheVariants.{Passive, Voltage, Current, VoltageByVoltage}
use Rattle.netlist_devices.specs.declared.kind.DeviceKind.TheVariants.{CurrentByVoltage, CurrentByCurrent}
use Rattle.netlist_devices.specs.declared.kind.DeviceKind.TheVariants.{VoltageByCurrent, Opamp, Transformer, Gyrator}
use Rattle.netlist_devices.specs.Devices.{Device, kind_of, is_directive, nodes_wanted, words_wanted, from_name}
use Rattle.netlist_devices.specs.Devices.{device_of, device_in, devices_in, is_ground, nodes_of}
use Rattle.netlist_devices.specs.EquationNames.{unknown_words, equation_words, own_names, equations_of, unknowns_of}
use Rattle.netlist_devices.specs.Rules.{shape_rule, kind_rule, words_rule, device_rules}
use Rattle.netlist_reader.specs.Models.{GivesModel, lines_in}
use Rattle.term_model.proofs.TextCounts.{bytes_of, seen-few, text-bytes, words-short}

filtered-few : {X : Type 0} (test : X → Bool) (items : List X) → length (filter test items) ≤ length items
filtered-few test [] = omega arith
filtered-few test (item ∷ items) = go (filtered-few test items) (test item)
  where
    go : length (filter test items) ≤ length items → (b : Bool) → length (cond b (item ∷ filter test items) (filter test items)) ≤ suc (length items)
    go rest true = omega (arith, rest)
    go rest false = omega (arith, rest)

nodes-few : (devices : List Device) → length (nodes_of devices) ≤ length (flat_map (λ device. device.nodes) devices)
nodes-few devices =
    let nodes : List (List ℕ) = flat_map (λ device. device.nodes) devices in
    let kept : List (List ℕ) = filter (λ node. not (is_ground node)) nodes in
    omega (arith, seen-few [] kept, filtered-few (λ node. not (is_ground node)) nodes)

-- the first rule of several that are kept
first-kept : (one two : Option Why) → option_or one two ≡ None → one ≡ None
first-kept None two kept = refl
first-kept (Some why) two kept = kept

holds : (b : Bool) (why : Why) → (if b then None else Some why) ≡ None → b ≡ true
holds true why kept = refl
holds false why kept = let none : ⊥ = cc in absurd none

-- the words of a device
shaped : (kind : DeviceKind) (words : List (List ℕ)) → shape_rule kind words ≡ None → words_wanted kind ≤ length words
shaped kind words kept = go (is_directive kind) (holds _ BadShape kept)
  where
    go : (b : Bool) → (if b then nat_eq (length words) (words_wanted kind) else nat_le (words_wanted kind)
        (length words)) ≡ true → words_wanted kind ≤ length words
    go true same = omega (arith, eqb-true (length words) (words_wanted kind) same)
    go false least = leb-true (words_wanted kind) (length words) least

from-name-few : (kind : DeviceKind) (words : List (List ℕ)) → length (from_name kind words) ≤ length words
from-name-few kind words = go (is_directive kind)
  where
    go : (b : Bool) → length (if b then drop 1 words else words) ≤ length words
    go true = omega (arith, length-drop 1 words)
    go false = omega arith

-- a line that keeps the rules of one
abbrev Keeps : ℕ → List ℕ → Type 0
Keeps p line = (before : List (List (List ℕ))) × (line_rule (device_rules p) before line ≡ None)

clean-words : (p : ℕ) (line : List ℕ) (before : List (List (List ℕ))) → line_rule (device_rules p) before line ≡ None →
    words_rule p before (words_in (device_rules p) line) ≡ None
clean-words p line before kept = go (is_clean (content (device_rules p) line)) kept
  where
    go : (b : Bool) → (if b then words_rule p before (words_in (device_rules p) line) else Some BadByte) ≡ None →
        words_rule p before (words_in (device_rules p) line) ≡ None
    go true kept = kept
    go false kept = let none : ⊥ = cc in absurd none

content-few : (p : ℕ) (line : List ℕ) → length (content (device_rules p) line) ≤ length line
content-few p line = go (is_remark (Some 42) line)
  where
    go : (b : Bool) → length (if b then [] else line) ≤ length line
    go true = omega arith
    go false = omega arith

each-keeps : (p : ℕ) (text : List ℕ) → KeepsAll (device_rules p) text → All (Keeps p) (lines_of text)
each-keeps p text kept k d within = (
  map (words_in (device_rules p)) (take k (lines_of text)),
  subst (λ line. line_rule (device_rules p) (map (words_in (device_rules p)) (take k (lines_of text))) line ≡ None)
      (get_or_default (lines_of text) k [] d within) (kept k within),
)

-- own names, by the words of the kinds, that have bytes enough in their device's line
module _ (own : DeviceKind → List (List ℕ)) (few : (kind : DeviceKind) → nodes_wanted kind + length (own kind) + 1 ≤ 2 * words_wanted kind) where
  -- the nodes and the own names of some devices
  abbrev size : List Device → ℕ
  size [] = 0
  size (device ∷ devices) = length device.nodes + length (own device.kind) + size devices

  size-append : (some more : List Device) → size (some ++ more) ≡ size some + size more
  size-append [] more = omega arith
  size-append (device ∷ devices) more = omega (arith, size-append devices more)

  size-counts : (devices : List Device) → length (flat_map (λ device. device.nodes) devices) + length (own_names own devices) ≡ size devices
  size-counts [] = omega arith
  size-counts (device ∷ devices) = omega (
    arith,
    size-counts devices,
    length-append device.nodes (flat_map (λ device. device.nodes) devices),
    length-append (map (λ word. dotted word device.name) (own device.kind)) (own_names own devices),
    length-map (own device.kind) (λ word. dotted word device.name),
  )

  kind-size : (p : ℕ) (before : List Device) (kind : Option DeviceKind) (words : List (List ℕ)) → kind_rule p before kind words ≡ None →
      size (option_to_list (option_map (λ kind. device_of p kind (from_name kind words)) kind)) ≤ 2 * length words - 1
  kind-size p before None words kept = omega arith
  kind-size p before (Some kind) words kept =
      let named : List (List ℕ) = from_name kind words in
      let shape = shaped kind named (first-kept (shape_rule kind named) _ kept) in
      omega (arith, few kind, shape, from-name-few kind words, length-take (nodes_wanted kind) (drop 1 named))

  words-size : (p : ℕ) (before : List (List (List ℕ))) (words : List (List ℕ)) → words_rule p before words ≡ None →
      size (device_in p words) ≤ 2 * length words - 1
  words-size p before [] kept = omega arith
  words-size p before (word ∷ words) kept = kind-size p (devices_in p before) (kind_of word) (word ∷ words) kept

  line-size : (p : ℕ) (line : List ℕ) → Keeps p line → size (device_in p (words_in (device_rules p) line)) ≤ length line
  line-size p line kept = omega (
    arith,
    words-size p kept.0 (words_in (device_rules p) line) (clean-words p line kept.0 kept.1),
    words-short (content (device_rules p) line),
    content-few p line,
  )

  lines-size : (p : ℕ) (lines : List (List ℕ)) → All (Keeps p) lines → size (devices_in p (map (words_in (device_rules p)) lines)) ≤ bytes_of lines
  lines-size p [] kept = omega arith
  lines-size p (line ∷ lines) kept = omega (
    arith,
    line-size p line (All-head (Keeps p) line lines kept),
    lines-size p lines (All-tail (Keeps p) line lines kept),
    size-append (device_in p (words_in (device_rules p) line)) (devices_in p (map (words_in (device_rules p)) lines)),
  )

  text-size : (p : ℕ) (text : List ℕ) → KeepsAll (device_rules p) text →
      length (nodes_of (devices_in p (lines_in p text))) + length (own_names own (devices_in p (lines_in p text))) ≤ length text
  text-size p text kept =
      let devices : List Device = devices_in p (lines_in p text) in
      omega (arith, nodes-few devices, size-counts devices, lines-size p (lines_of text) (each-keeps p text kept), text-bytes text)

unknowns-few : (kind : DeviceKind) → nodes_wanted kind + length (unknown_words kind) + 1 ≤ 2 * words_wanted kind
unknowns-few Passive = omega arith
unknowns-few Voltage = omega arith
unknowns-few Current = omega arith
unknowns-few VoltageByVoltage = omega arith
unknowns-few CurrentByVoltage = omega arith
unknowns-few CurrentByCurrent = omega arith
unknowns-few VoltageByCurrent = omega arith
unknowns-few Opamp = omega arith
unknowns-few Transformer = omega arith
unknowns-few Gyrator = omega arith

equations-few : (kind : DeviceKind) → nodes_wanted kind + length (equation_words kind) + 1 ≤ 2 * words_wanted kind
equations-few Passive = omega arith
equations-few Voltage = omega arith
equations-few Current = omega arith
equations-few VoltageByVoltage = omega arith
equations-few CurrentByVoltage = omega arith
equations-few CurrentByCurrent = omega arith
equations-few VoltageByCurrent = omega arith
equations-few Opamp = omega arith
equations-few Transformer = omega arith
equations-few Gyrator = omega arith

-- names of nodes, and own names
names-count : (word : List ℕ) (own : DeviceKind → List (List ℕ)) (devices : List Device) →
    length (map (dotted word) (nodes_of devices) ++ own_names own devices) ≡ length (nodes_of devices) + length (own_names own devices)
names-count word own devices = omega (
  arith,
  length-append (map (dotted word) (nodes_of devices)) (own_names own devices),
  length-map (nodes_of devices) (dotted word),
)

pub netlist-names-few : (p : ℕ) (text : List ℕ) (model : MixedModel) → GivesModel p text model →
    (length model.equations ≤ length text) × (length model.unknowns ≤ length text)
netlist-names-few p text model gives =
    let devices : List Device = devices_in p (lines_in p text) in
    let equations : length model.equations ≡ length (equations_of devices) = ap length (gives.given).equations_are in
    let unknowns : length model.unknowns ≡ length (unknowns_of devices) = ap length (gives.given).unknowns_are in (
      omega (arith, equations, names-count (codes "kcl") equation_words devices, text-size equation_words equations-few p text gives.kept),
      omega (arith, unknowns, names-count (codes "u") unknown_words devices, text-size unknown_words unknowns-few p text gives.kept),
    )
