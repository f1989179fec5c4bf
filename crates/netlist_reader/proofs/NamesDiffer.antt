-- The names of equations and of unknowns differ.
use Rattle.std.proofs.Common.{◌≡◌, ℕ, false, List, codes, refl}
use Rattle.mixed_model.specs.Names.{has_name}
use Rattle.term_model.specs.Terms.{dotted}
use Rattle.term_model.proofs.DottedNames.{Apart, Dotted}
use Rattle.term_model.proofs.OwnNames.{own-apart}
use Rattle.netlist_devices.specs.declared.kind.DeviceKind.{DeviceKind}
use Rattle.netlist_devices.specs.declared.kind.DeviceKind.TheVariants.{Passive, Voltage, Current, VoltageByVoltage}
use Rattle.netlist_devices.specs.declared.kind.DeviceKind.TheVariants.{CurrentByVoltage, CurrentByCurrent}
use Rattle.netlist_devices.specs.declared.kind.DeviceKind.TheVariants.{VoltageByCurrent, Opamp, Transformer, Gyrator}
use Rattle.netlist_devices.specs.Devices.{Device}
use Rattle.netlist_devices.specs.EquationNames.{equation_words, unknown_words, own_names}

pub equations-dotted : (kind : DeviceKind) → Dotted (equation_words kind)
equations-dotted Passive = ((λ n. refl), ((λ n. refl), tt))
equations-dotted Voltage = ((λ n. refl), ((λ n. refl), tt))
equations-dotted Current = ((λ n. refl), ((λ n. refl), tt))
equations-dotted VoltageByVoltage = ((λ n. refl), ((λ n. refl), ((λ n. refl), tt)))
equations-dotted CurrentByVoltage = ((λ n. refl), ((λ n. refl), ((λ n. refl), tt)))
equations-dotted CurrentByCurrent = ((λ n. refl), ((λ n. refl), tt))
equations-dotted VoltageByCurrent = ((λ n. refl), ((λ n. refl), tt))
equations-dotted Opamp = ((λ n. refl), tt)
equations-dotted Transformer = ((λ n. refl), ((λ n. refl), ((λ n. refl), ((λ n. refl), tt))))
equations-dotted Gyrator = ((λ n. refl), ((λ n. refl), ((λ n. refl), ((λ n. refl), tt))))

pub unknowns-dotted : (kind : DeviceKind) → Dotted (unknown_words kind)
unknowns-dotted Passive = ((λ n. refl), ((λ n. refl), tt))
unknowns-dotted Voltage = ((λ n. refl), ((λ n. refl), tt))
unknowns-dotted Current = ((λ n. refl), ((λ n. refl), tt))
unknowns-dotted VoltageByVoltage = ((λ n. refl), ((λ n. refl), ((λ n. refl), tt)))
unknowns-dotted CurrentByVoltage = ((λ n. refl), ((λ n. refl), ((λ n. refl), tt)))
unknowns-dotted CurrentByCurrent = ((λ n. refl), ((λ n. refl), tt))
unknowns-dotted VoltageByCurrent = ((λ n. refl), ((λ n. refl), tt))
unknowns-dotted Opamp = ((λ n. refl), tt)
unknowns-dotted Transformer = ((λ n. refl), ((λ n. refl), ((λ n. refl), ((λ n. refl), tt))))
unknowns-dotted Gyrator = ((λ n. refl), ((λ n. refl), ((λ n. refl), ((λ n. refl), tt))))

equations-apart : (kind : DeviceKind) → Apart (codes "kcl") (equation_words kind)
equations-apart Passive = ((λ n. refl), ((λ n. refl), tt))
equations-apart Voltage = ((λ n. refl), ((λ n. refl), tt))
equations-apart Current = ((λ n. refl), ((λ n. refl), tt))
equations-apart VoltageByVoltage = ((λ n. refl), ((λ n. refl), ((λ n. refl), tt)))
equations-apart CurrentByVoltage = ((λ n. refl), ((λ n. refl), ((λ n. refl), tt)))
equations-apart CurrentByCurrent = ((λ n. refl), ((λ n. refl), tt))
equations-apart VoltageByCurrent = ((λ n. refl), ((λ n. refl), tt))
equations-apart Opamp = ((λ n. refl), tt)
equations-apart Transformer = ((λ n. refl), ((λ n. refl), ((λ n. refl), ((λ n. refl), tt))))
equations-apart Gyrator = ((λ n. refl), ((λ n. refl), ((λ n. refl), ((λ n. refl), tt))))

unknowns-apart : (kind : DeviceKind) → Apart (codes "u") (unknown_words kind)
unknowns-apart Passive = ((λ n. refl), ((λ n. refl), tt))
unknowns-apart Voltage = ((λ n. refl), ((λ n. refl), tt))
unknowns-apart Current = ((λ n. refl), ((λ n. refl), tt))
unknowns-apart VoltageByVoltage = ((λ n. refl), ((λ n. refl), ((λ n. refl), tt)))
unknowns-apart CurrentByVoltage = ((λ n. refl), ((λ n. refl), ((λ n. refl), tt)))
unknowns-apart CurrentByCurrent = ((λ n. refl), ((λ n. refl), tt))
unknowns-apart VoltageByCurrent = ((λ n. refl), ((λ n. refl), tt))
unknowns-apart Opamp = ((λ n. refl), tt)
unknowns-apart Transformer = ((λ n. refl), ((λ n. refl), ((λ n. refl), ((λ n. refl), tt))))
unknowns-apart Gyrator = ((λ n. refl), ((λ n. refl), ((λ n. refl), ((λ n. refl), tt))))

pub kcl-apart : (devices : List Device) (node : List ℕ) → has_name (own_names equation_words devices) (dotted (codes "kcl") node) ≡ false
kcl-apart devices node = own-apart (λ (device : Device). device.name)
    (λ (device : Device). equation_words device.kind) (codes "kcl") (λ device. equations-apart device.kind) devices
    (dotted (codes "kcl") node) refl

pub u-apart : (devices : List Device) (node : List ℕ) → has_name (own_names unknown_words devices) (dotted (codes "u") node) ≡ false
u-apart devices node = own-apart (λ (device : Device). device.name) (λ (device : Device). unknown_words device.kind)
    (codes "u") (λ device. unknowns-apart device.kind) devices (dotted (codes "u") node) refl
