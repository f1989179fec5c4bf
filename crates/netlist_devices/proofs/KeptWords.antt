-- The first words of a line tell its device.
use Rattle.std.proofs.Common.{◌≡◌, ℕ, ◌+◌, ◌-◌, ◌<◌, ◌≤◌, Bool, true, false, List, [], ◌∷◌, length, take, drop, min}
use Rattle.std.proofs.Common.{Option, Some, None, refl, ap, ◌∙◌, arith, cond, nat_eq, nat_le, length-take}
use Rattle.std.proofs.Common.{get_or-take}
use Rattle.std.specs.Option.{option_map, option_or, option_to_list}
use Rattle.std.specs.Result.{result_unwrap_or}
use Rattle.std.proofs.lemmas.List.{drop-take, take-take}
use Rattle.std.proofs.lemmas.Bool.Decides.{nat_tests}
use Rattle.refusals.specs.declared.Why.TheVariants.{BadShape}
use Rattle.line_lexer.specs.Numbers.{number_of}
use Rattle.netlist_devices.specs.declared.kind.DeviceKind.{DeviceKind}
use Rattle.netlist_devices.specs.declared.kind.DeviceKind.TheVariants.{Passive, Voltage, Current, VoltageByVoltage}
use Rattle.netlist_devices.specs.declared.kind.DeviceKind.TheVariants.{CurrentByVoltage, CurrentByCurrent}
use Rattle.netlist_devices.specs.declared.kind.DeviceKind.TheVariants.{VoltageByCurrent, Opamp, Transformer, Gyrator}
use Rattle.netlist_devices.specs.Devices.{device_in, device_of, from_name, ends_with_number, has_source, is_directive}
use Rattle.netlist_devices.specs.Devices.{kind_of, nodes_wanted, word_after_nodes, words_wanted}
use Rattle.netlist_devices.specs.Rules.{name_rule, number_rule, shape_rule, unless}
use Rattle.netlist_devices.specs.ReaderStates.{own_kind_rule, own_line_rule, own_rule}
use Rattle.netlist_devices.proofs.DeviceSteps.{same_device}

few_wanted : (kind : DeviceKind) → words_wanted kind ≤ 6
few_wanted Passive = omega arith
few_wanted Voltage = omega arith
few_wanted Current = omega arith
few_wanted VoltageByVoltage = omega arith
few_wanted CurrentByVoltage = omega arith
few_wanted CurrentByCurrent = omega arith
few_wanted VoltageByCurrent = omega arith
few_wanted Opamp = omega arith
few_wanted Transformer = omega arith
few_wanted Gyrator = omega arith

few_nodes : (kind : DeviceKind) → nodes_wanted kind ≤ 4
few_nodes Passive = omega arith
few_nodes Voltage = omega arith
few_nodes Current = omega arith
few_nodes VoltageByVoltage = omega arith
few_nodes CurrentByVoltage = omega arith
few_nodes CurrentByCurrent = omega arith
few_nodes VoltageByCurrent = omega arith
few_nodes Opamp = omega arith
few_nodes Transformer = omega arith
few_nodes Gyrator = omega arith

-- a test of a number that is cut off above what is tested
cut_eq : (n count wanted : ℕ) → wanted < n → nat_eq (min n count) wanted ≡ nat_eq count wanted
cut_eq n count wanted few = grind (arith, nat_tests)

cut_le : (n count wanted : ℕ) → wanted < n → nat_le wanted (min n count) ≡ nat_le wanted count
cut_le n count wanted few = grind (arith, nat_tests)

cut_shape : (kind : DeviceKind) (n : ℕ) (words : List (List ℕ)) → 6 < n → shape_rule kind (take n words) ≡ shape_rule kind words
cut_shape kind n words long =
    let few = few_wanted kind in
    ap (λ count. unless (cond (is_directive kind) (nat_eq count (words_wanted kind)) (nat_le (words_wanted kind) count)) BadShape) (length-take n words)
    ∙ (λ i. unless (cond (is_directive kind) (cut_eq n (length words) (words_wanted kind) (omega (arith, few)) i)
    (cut_le n (length words) (words_wanted kind) (omega (arith, few)) i)) BadShape)

cut_after : (kind : DeviceKind) (n : ℕ) (words : List (List ℕ)) → 6 < n → word_after_nodes kind (take n words) ≡ word_after_nodes kind words
cut_after kind n words long = get_or-take n words (1 + nodes_wanted kind) [] (omega (arith, few_nodes kind))

cut_nodes : (m n : ℕ) (words : List (List ℕ)) → m < n → take m (drop 1 (take n words)) ≡ take m (drop 1 words)
cut_nodes m n words few =
    let count : n ≡ 1 + (n - 1) = omega (arith, few) in
    ap (λ k. take m (drop 1 (take k words))) count ∙ ap (take m) (drop-take 1 (n - 1) words) ∙ take-take m (n - 1) (drop 1 words) (omega (arith, few))

cut_device : (p : ℕ) (kind : DeviceKind) (n : ℕ) (words : List (List ℕ)) → 6 < n → device_of p kind (take n words) ≡ device_of p kind words
cut_device p kind n words long =
    same_device (device_of p kind (take n words)) (device_of p kind words) refl (get_or-take n words 0 [] (omega arith))
    (cut_nodes (nodes_wanted kind) n words (omega (arith, few_nodes kind)))
    (ap (λ word. cond (has_source kind) word []) (cut_after kind n words long))
    (ap (λ word. cond (ends_with_number kind) (result_unwrap_or (number_of p word) 0) 0) (cut_after kind n words long))

cut_rule : (p : ℕ) (kind : DeviceKind) (n : ℕ) (words : List (List ℕ)) → 6 < n → own_rule p kind (take n words) ≡ own_rule p kind words
cut_rule p kind n words long =
    λ i. option_or (cut_shape kind n words long i) (option_or (name_rule (cut_device p kind n words long i))
    (number_rule p kind (cut_after kind n words long i)))

-- from the name on
cut_rule-from : (p : ℕ) (kind : DeviceKind) (directive : Bool) (word : List ℕ) (words : List (List ℕ)) →
    own_rule p kind (cond directive (take 7 words) (word ∷ take 7 words)) ≡ own_rule p kind
    (cond directive words (word ∷ words))
cut_rule-from p kind true word words = cut_rule p kind 7 words (omega arith)
cut_rule-from p kind false word words = cut_rule p kind 8 (word ∷ words) (omega arith)

cut_device-from : (p : ℕ) (kind : DeviceKind) (directive : Bool) (word : List ℕ) (words : List (List ℕ)) →
    device_of p kind (cond directive (take 7 words) (word ∷ take 7 words)) ≡ device_of p kind
    (cond directive words (word ∷ words))
cut_device-from p kind true word words = cut_device p kind 7 words (omega arith)
cut_device-from p kind false word words = cut_device p kind 8 (word ∷ words) (omega arith)

pub kept-rule : (p : ℕ) (words : List (List ℕ)) → own_line_rule p (take 8 words) ≡ own_line_rule p words
kept-rule p [] = refl
kept-rule p (word ∷ words) = by (kind_of word)
  where
    by : (kind : Option DeviceKind) → own_kind_rule p kind (word ∷ take 7 words) ≡ own_kind_rule p kind (word ∷ words)
    by None = refl
    by (Some kind) = cut_rule-from p kind (is_directive kind) word words

pub kept-device : (p : ℕ) (words : List (List ℕ)) → device_in p (take 8 words) ≡ device_in p words
kept-device p [] = refl
kept-device p (word ∷ words) = by (kind_of word)
  where
    by : (kind : Option DeviceKind) → option_to_list
        (option_map (λ kind. device_of p kind (from_name kind (word ∷ take 7 words))) kind) ≡ option_to_list
        (option_map (λ kind. device_of p kind (from_name kind (word ∷ words))) kind)
    by None = refl
    by (Some kind) = ap (λ device. device ∷ []) (cut_device-from p kind (is_directive kind) word words)
