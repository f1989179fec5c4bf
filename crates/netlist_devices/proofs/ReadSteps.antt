-- What a circuit has read, by lines.
use Rattle.std.proofs.Common.{◌≡◌, ℕ, ◌+◌, List, [], ◌∷◌, ◌++◌, length, map, Option, Some, None, Result, Ok, Err}
use Rattle.std.proofs.Common.{refl, sym, ap, ◌∙◌, arith, append_assoc, length-append}
use Rattle.std.specs.Prelude.{OnOk}
use Rattle.std.specs.Option.{option_map, option_or, option_to_list}
use Rattle.std.proofs.lemmas.List.{append-nil, length-map}
use Rattle.std.proofs.lemmas.Grind.{flat_map-append}
use Rattle.refusals.specs.declared.Why.{Why}
use Rattle.line_reader.specs.Answers.{ReadsWords}
use Rattle.refusals.specs.declared.fault.Fault.{Fault}
use Rattle.refusals.specs.declared.fault.Fault.TheVariants.{Broken, NoMemory}
use Rattle.netlist_devices.specs.declared.kind.DeviceKind.{DeviceKind}
use Rattle.netlist_devices.specs.Devices.{Device, device_in, device_of, devices_in, from_name, kind_of, word_after_nodes}
use Rattle.netlist_devices.specs.Rules.{kind_rule, name_rule, number_rule, place_rule, shape_rule, words_rule}
use Rattle.netlist_devices.specs.Circuits.{HasRead, IsCircuit, CircuitParts, device_lines}
use Rattle.netlist_devices.specs.ReaderStates.{IsReady, PutsLast, ReadsLine, here_rule, own_kind_rule, own_line_rule}

-- the first of four rules, by the first three and the last
regroup : (a b c d : Option Why) → option_or a (option_or b (option_or c d)) ≡ option_or (option_or a (option_or b c)) d
regroup (Some why) b c d = refl
regroup None (Some why) c d = refl
regroup None None (Some why) d = refl
regroup None None None d = refl

-- the rules of a line are those of its own and then that of its device's place
pub line-rule : (p : ℕ) (before : List (List (List ℕ))) (words : List (List ℕ)) →
    words_rule p before words ≡ option_or (own_line_rule p words)
    (here_rule (devices_in p before) (device_in p words))
line-rule p before [] = refl
line-rule p before (word ∷ words) = by (kind_of word)
  where
    by : (kind : Option DeviceKind) → kind_rule p (devices_in p before) kind (word ∷ words)
        ≡ option_or (own_kind_rule p kind (word ∷ words))
        (here_rule (devices_in p before) (option_to_list
        (option_map (λ kind. device_of p kind (from_name kind (word ∷ words))) kind)))
    by None = refl
    by (Some kind) =
        let own = from_name kind (word ∷ words) in
        regroup (shape_rule kind own) (name_rule (device_of p kind own))
        (number_rule p kind (word_after_nodes kind own)) (place_rule (devices_in p before) (device_of p kind own))

-- the devices of one line more, and their numbers
devices-push : (p : ℕ) (before : List (List (List ℕ))) (words : List (List ℕ)) → devices_in p (before ++ words ∷ []) ≡ devices_in p before ++ device_in p words
devices-push p before words = flat_map-append (device_in p) before (words ∷ []) ∙ ap (λ more. devices_in p before ++ more) (append-nil (device_in p words))

lines-push : (p first number : ℕ) (before : List (List (List ℕ))) (words : List (List ℕ)) →
    first + length before ≡ number → device_lines p first
    (before ++ words ∷ []) ≡ device_lines p first before ++ map (λ device. number) (device_in p words)
lines-push p first number [] words at =
    let same : first ≡ number = omega (arith, at) in
    append-nil (map (λ device. first) (device_in p words)) ∙ ap (λ n. map (λ device. n) (device_in p words)) same
lines-push p first number (line ∷ lines) words at =
    ap (λ more. map (λ device. first) (device_in p line) ++ more) (lines-push p (first + 1) number lines words (omega (arith, at)))
    ∙ sym (append_assoc (map (λ device. first) (device_in p line)) (device_lines p (first + 1) lines) (map (λ device. number) (device_in p words)))

-- one line more is read
read-push : (p number : ℕ) (old new : CircuitParts) (before : List (List (List ℕ))) (words : List (List ℕ)) →
    HasRead p old before → length before + 1 ≡ number → IsCircuit p new → PutsLast number old new (device_in p words) →
    HasRead p new (before ++ words ∷ [])
read-push p number old new before words has numbered circuit puts = record {
  circuit = circuit;
  devices = puts.0 ∙ ap (λ front. front ++ device_in p words) has.devices ∙ sym (devices-push p before words);
  lines = puts.1 ∙ ap (λ front. front ++ map (λ device. number) (device_in p words)) has.lines
      ∙ sym (lines-push p 1 number before words (omega (arith, numbered)));
}

same-rule : (p : ℕ) (old : CircuitParts) (before : List (List (List ℕ))) (words : List (List ℕ)) → HasRead p old before →
    words_rule p before words ≡ option_or (own_line_rule p words) (here_rule old.devices (device_in p words))
same-rule p old before words has = line-rule p before words
    ∙ ap (λ devices. option_or (own_line_rule p words) (here_rule devices (device_in p words))) (sym has.devices)

-- A line that is read, whatever was read before.
pub reads-words : (p number : ℕ) (old new : CircuitParts) (words : List (List ℕ)) (result : Result (Unit {0}) Fault) →
    OnOk result (IsCircuit p new) → ReadsLine p number old new words result →
    ReadsWords (words_rule p) (HasRead p) number old new words result
reads-words p number old new words (Ok done) circuit (kept, puts) = λ before has numbered.
    (same-rule p old before words has ∙ kept, read-push p number old new before words has numbered circuit puts)
reads-words p number old new words (Err (Broken why)) circuit broken = λ before has numbered. same-rule p old before words has ∙ broken
reads-words p number old new words (Err NoMemory) circuit read = λ before has numbered. tt

-- nothing is read at first
pub read-none : (p : ℕ) (parts : CircuitParts) → IsCircuit p parts → parts.devices ≡ [] → parts.lines ≡ [] → HasRead p parts []
read-none p parts circuit devices lines = record { circuit = circuit; devices = devices; lines = lines }

-- a line that is read leaves each device with the number of its line
one_each : (number : ℕ) (old new : CircuitParts) (devices : List Device) → PutsLast number old new devices →
    length old.lines ≡ length old.devices → length new.lines ≡ length new.devices
one_each number old new devices puts same =
    omega (
      arith,
      ap length puts.0,
      ap length puts.1,
      length-append old.devices devices,
      length-append old.lines
          (map (λ (device : Device). number) devices),
      length-map devices (λ (device : Device). number),
      same,
    )

pub ready-read : (p number : ℕ) (old new : CircuitParts) (words : List (List ℕ)) (result : Result (Unit {0}) Fault) →
    IsReady p old → OnOk result (IsCircuit p new) → ReadsLine p number old new words result →
    OnOk result (IsReady p new)
ready-read p number old new words (Ok done) ready circuit read = record {
  circuit = circuit;
  one_line_each =
      one_each number old new (device_in p words) read.1 ready.one_line_each;
}
ready-read p number old new words (Err fault) ready circuit read = tt
