-- A line read by its words.
use Rattle.std.proofs.Common.{◌≡◌, ℕ, List, [], ◌∷◌, take, Some, None, Result, Err, sym, ap, subst, ◌∙◌}
use Rattle.std.specs.Option.{option_or}
use Rattle.line_reader.specs.Answers.{AnswersRule}
use Rattle.refusals.specs.Faults.{OnBroken}
use Rattle.refusals.specs.declared.fault.Fault.{Fault}
use Rattle.netlist_devices.specs.Devices.{Device, device_in}
use Rattle.netlist_devices.specs.Rules.{place_rule}
use Rattle.netlist_devices.specs.Circuits.{CircuitParts}
use Rattle.netlist_devices.specs.ReaderStates.{AddsDevice, PutsLast, ReadsLine, here_rule, own_line_rule}
use Rattle.line_reader.proofs.Rules.{first_broken}
use Rattle.line_reader.proofs.Faults.{fault_answers, on_broken}
use Rattle.netlist_devices.proofs.KeptWords.{kept-device, kept-rule}

-- a line that breaks a rule of its own
pub read-fault : (p line : ℕ) (old new : CircuitParts) (all kept : List (List ℕ)) (fault other : Fault) → kept ≡ take 8 all →
    fault ≡ other → OnBroken other (λ why. own_line_rule p kept ≡ Some why) → ReadsLine p line old new all (Err fault)
read-fault p line old new all kept fault other first same said =
    let rule = own_line_rule p all in
    let next = here_rule old.devices (device_in p all) in
    fault_answers (option_or rule next) (PutsLast line old new (device_in p all)) fault other same
    (on_broken (λ why. own_line_rule p kept ≡ Some why) (λ why. option_or rule next ≡ Some why) other
    (λ why broken. first_broken rule next why (sym (kept-rule p all) ∙ ap (own_line_rule p) (sym first) ∙ broken)) said)

-- or whose device is put last
pub read-added : (p line : ℕ) (old new : CircuitParts) (all kept : List (List ℕ)) (device : Device)
    (result : Result (Unit {0}) Fault) → kept ≡ take 8 all → own_line_rule p kept ≡ None →
    device ∷ [] ≡ device_in p kept → AddsDevice line old new device result → ReadsLine p line old new all result
read-added p line old new all kept device result first good here adds =
    let rule : own_line_rule p all ≡ None = sym (kept-rule p all) ∙ ap (own_line_rule p) (sym first) ∙ good in
    let devices : device_in p all ≡ device ∷ [] = sym (kept-device p all) ∙ ap (device_in p) (sym first) ∙ sym here in
    subst (λ here. AnswersRule (option_or (own_line_rule p all) (here_rule old.devices here)) (PutsLast line old new here) result) (sym devices)
    (subst (λ rule. AnswersRule (option_or rule (place_rule old.devices device)) (PutsLast line old new (device ∷ [])) result) (sym rule) adds)
