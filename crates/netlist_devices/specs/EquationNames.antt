-- The unknowns and the equations of devices, by their names.
use Rattle.std.specs.Prelude.{ℕ, List, [], ◌∷◌, ◌++◌, map, codes}
use Rattle.term_model.specs.Terms.{dotted, own_names_of}
use Rattle.netlist_devices.specs.declared.kind.DeviceKind.{DeviceKind}
use Rattle.netlist_devices.specs.declared.kind.DeviceKind.TheVariants.{VoltageByVoltage, CurrentByVoltage, Opamp, Transformer, Gyrator}
use Rattle.netlist_devices.specs.Devices.{Device, nodes_of}

-- the words of a device's own unknowns, in order
abbrev pub unknown_words : DeviceKind → List (List ℕ)
unknown_words VoltageByVoltage = codes "v" ∷ codes "i" ∷ codes "w" ∷ []
unknown_words CurrentByVoltage = codes "v" ∷ codes "i" ∷ codes "w" ∷ []
unknown_words Opamp = codes "i" ∷ []
unknown_words Transformer = codes "va" ∷ codes "ia" ∷ codes "vb" ∷ codes "ib" ∷ []
unknown_words Gyrator = codes "va" ∷ codes "ia" ∷ codes "vb" ∷ codes "ib" ∷ []
unknown_words _ = codes "v" ∷ codes "i" ∷ []

-- the words of its own equations
abbrev pub equation_words : DeviceKind → List (List ℕ)
equation_words VoltageByVoltage = codes "kvl" ∷ codes "ctl" ∷ codes "law" ∷ []
equation_words CurrentByVoltage = codes "kvl" ∷ codes "ctl" ∷ codes "law" ∷ []
equation_words Opamp = codes "law" ∷ []
equation_words Transformer = codes "kvla" ∷ codes "kvlb" ∷ codes "lawa" ∷ codes "lawb" ∷ []
equation_words Gyrator = codes "kvla" ∷ codes "kvlb" ∷ codes "lawa" ∷ codes "lawb" ∷ []
equation_words _ = codes "kvl" ∷ codes "law" ∷ []

-- some devices' own names, in order, by the words of their kinds
abbrev pub own_names : (DeviceKind → List (List ℕ)) → List Device → List (List ℕ)
own_names words devices = own_names_of (λ device. device.name) (λ device. words device.kind) devices

-- The unknowns of some devices: a voltage for each node but the ground, and then each device's own.
abbrev pub unknowns_of : List Device → List (List ℕ)
unknowns_of devices = map (dotted (codes "u")) (nodes_of devices) ++ own_names unknown_words devices

-- Their equations: the currents at each node but the ground, and then each device's own.
abbrev pub equations_of : List Device → List (List ℕ)
equations_of devices = map (dotted (codes "kcl")) (nodes_of devices) ++ own_names equation_words devices
