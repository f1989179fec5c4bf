-- The terms that stand in the equations of devices.
use Rattle.std.specs.Prelude.{ℕ, ◌-◌, List, [], ◌∷◌, ◌++◌, codes, if◌then◌else◌, slice_index_or}
use Rattle.std.specs.List.{flat_map}
use Rattle.term_model.specs.Terms.{Term, constant, dotted, symbol}
use Rattle.netlist_devices.specs.declared.kind.DeviceKind.{DeviceKind}
use Rattle.netlist_devices.specs.declared.kind.DeviceKind.TheVariants.{Passive, Voltage, Current, VoltageByVoltage, CurrentByVoltage}
use Rattle.netlist_devices.specs.declared.kind.DeviceKind.TheVariants.{CurrentByCurrent, VoltageByCurrent, Opamp, Transformer, Gyrator}
use Rattle.netlist_devices.specs.Devices.{Device, is_ground, ground}

-- n times the voltage of a node, in an equation: nothing at the ground
abbrev pub node_voltage : List ℕ → ℕ → List ℕ → List Term
node_voltage equation n node = if is_ground node then [] else constant equation (dotted (codes "u") node) n ∷ []

-- n times a current, in the equation of a node: the ground has none
abbrev pub node_current : List ℕ → ℕ → List ℕ → List Term
node_current current n node = if is_ground node then [] else constant (dotted (codes "kcl") node) current n ∷ []

-- u(plus) - u(minus), in an equation modulo p
abbrev pub difference : ℕ → List ℕ → List ℕ → List ℕ → List Term
difference p equation plus minus = node_voltage equation 1 plus ++ node_voltage equation (p - 1) minus

-- a current leaves the node plus and enters the node minus
abbrev pub current_terms : ℕ → List ℕ → List ℕ → List ℕ → List Term
current_terms p current plus minus = node_current current 1 plus ++ node_current current (p - 1) minus

-- an equation says that a voltage is u(plus) - u(minus): voltage - u(plus) + u(minus)
abbrev pub voltage_is : ℕ → List ℕ → List ℕ → List ℕ → List ℕ → List Term
voltage_is p equation voltage plus minus = constant equation voltage 1 ∷ difference p equation minus plus

-- node k of a device
abbrev pub node : Device → ℕ → List ℕ
node device k = slice_index_or device.nodes k []

-- A device's own unknown or equation with this word.
abbrev pub own : Device → List ℕ → List ℕ
own device word = dotted word device.name

-- between two of its nodes: a voltage, and a current, by the words of these and of the equation
abbrev pub branch_between : ℕ → Device → List ℕ → List ℕ → List ℕ → List ℕ → List ℕ → List Term
branch_between p d kvl voltage current plus minus =
    voltage_is p (own d kvl) (own d voltage) plus minus ++ current_terms p (own d current) plus minus

-- between its first two nodes
abbrev pub branch : ℕ → Device → List Term
branch p d = branch_between p d (codes "kvl") (codes "v") (codes "i") (node d 0) (node d 1)

-- two pairs of nodes
abbrev pub two_branches : ℕ → Device → List Term
two_branches p d =
    branch_between p d (codes "kvla") (codes "va") (codes "ia") (node d 0) (node d 1)
    ++ branch_between p d (codes "kvlb") (codes "vb") (codes "ib") (node d 2) (node d 3)

-- the voltage between its control nodes
abbrev pub control : ℕ → Device → List Term
control p d = voltage_is p (own d (codes "ctl")) (own d (codes "w")) (node d 2) (node d 3)

-- symbols in its law at two unknowns
abbrev pub proportion : Device → List ℕ → List ℕ → List Term
proportion d x y = symbol (own d (codes "law")) x ∷ symbol (own d (codes "law")) y ∷ []

-- The terms of a device, by its kind.
abbrev pub terms_by : ℕ → DeviceKind → Device → List Term
terms_by p Passive d = branch p d ++ proportion d (own d (codes "v")) (own d (codes "i"))
terms_by p Voltage d = branch p d ++ constant (own d (codes "law")) (own d (codes "v")) 1 ∷ []
terms_by p Current d = branch p d ++ constant (own d (codes "law")) (own d (codes "i")) 1 ∷ []
terms_by p VoltageByVoltage d = branch p d ++ control p d ++ proportion d (own d (codes "v")) (own d (codes "w"))
terms_by p CurrentByVoltage d = branch p d ++ control p d ++ proportion d (own d (codes "i")) (own d (codes "w"))
terms_by p CurrentByCurrent d = branch p d ++ proportion d (own d (codes "i")) (dotted (codes "i") d.source)
terms_by p VoltageByCurrent d = branch p d ++ proportion d (own d (codes "v")) (dotted (codes "i") d.source)
terms_by p Opamp d =
    current_terms p (own d (codes "i")) (node d 2) ground ++ difference p (own d (codes "law")) (node d 0) (node d 1)
terms_by p Transformer d =
    two_branches p d
    ++ constant (own d (codes "lawa")) (own d (codes "va")) 1
    ∷ constant (own d (codes "lawa")) (own d (codes "vb")) (p - d.number)
    ∷ constant (own d (codes "lawb")) (own d (codes "ia")) d.number
    ∷ constant (own d (codes "lawb")) (own d (codes "ib")) 1 ∷ []
terms_by p Gyrator d =
    two_branches p d
    ++ constant (own d (codes "lawa")) (own d (codes "va")) 1
    ∷ constant (own d (codes "lawa")) (own d (codes "ib")) (p - d.number)
    ∷ constant (own d (codes "lawb")) (own d (codes "vb")) 1
    ∷ constant (own d (codes "lawb")) (own d (codes "ia")) d.number ∷ []

-- the terms of some devices
abbrev pub terms_of : ℕ → List Device → List Term
terms_of p devices = flat_map (λ device. terms_by p device.kind device) devices
