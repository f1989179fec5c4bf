-- The terms that are put into a model: each stands at a place of its own.
use Rattle.std.specs.Prelude.{◌≡◌, ℕ, ◌-◌, ◌%◌, true, false, List, [], ◌∷◌, ◌++◌, codes, if◌then◌else◌, nat_eq}
use Rattle.std.specs.Str.{bytes_eq}
use Rattle.mixed_model.specs.Names.{has_name, name_at}
use Rattle.mixed_model.specs.declared.errors.AddError.{AddError}
use Rattle.mixed_model.specs.declared.errors.AddError.TheVariants.{NoMemory}
use Rattle.mixed_model.specs.Models.{MixedModel}
use Rattle.term_model.specs.Terms.{Term, constant, dotted, symbol}
use Rattle.term_model.specs.Putting.{Says}
use Rattle.netlist_devices.specs.declared.kind.DeviceKind.{DeviceKind}
use Rattle.netlist_devices.specs.declared.kind.DeviceKind.TheVariants.{Passive, Voltage, Current, VoltageByVoltage, CurrentByVoltage}
use Rattle.netlist_devices.specs.declared.kind.DeviceKind.TheVariants.{CurrentByCurrent, VoltageByCurrent, Opamp, Transformer, Gyrator}
use Rattle.netlist_devices.specs.Devices.{Device, device_names, ground, has_source}
use Rattle.netlist_devices.specs.EquationNames.{equation_words, unknown_words}
use Rattle.netlist_reader.specs.Terms.{own, node, difference, current_terms, terms_of}

-- a constant, unless it is 0
abbrev pub put_constant : List ℕ → List ℕ → ℕ → List Term
put_constant equation unknown n = if nat_eq n 0 then [] else constant equation unknown n ∷ []

-- u(plus) - u(minus), of which nothing is left at one node
abbrev pub put_difference : ℕ → List ℕ → List ℕ → List ℕ → List Term
put_difference p equation plus minus = if bytes_eq plus minus then [] else difference p equation plus minus

-- a current that leaves plus and enters minus
abbrev pub put_flow : ℕ → List ℕ → List ℕ → List ℕ → List Term
put_flow p current plus minus = if bytes_eq plus minus then [] else current_terms p current plus minus

abbrev pub put_voltage : ℕ → List ℕ → List ℕ → List ℕ → List ℕ → List Term
put_voltage p equation voltage plus minus = constant equation voltage 1 ∷ put_difference p equation minus plus

-- between two nodes: a voltage and a current, by the names of these and of the equation
abbrev pub put_between : ℕ → List ℕ → List ℕ → List ℕ → List ℕ → List ℕ → List Term
put_between p equation voltage current plus minus =
    put_voltage p equation voltage plus minus ++ put_flow p current plus minus

-- symbols in a law at two unknowns
abbrev pub put_symbols : List ℕ → List ℕ → List ℕ → List Term
put_symbols law first second = symbol law first ∷ symbol law second ∷ []

-- the terms of two laws: 1 and -n, n and 1
abbrev pub put_laws : ℕ → List ℕ → List ℕ → List ℕ → List ℕ → List ℕ → List ℕ → ℕ → List Term
put_laws p lawa lawb first second third fourth n =
    constant lawa first 1 ∷ put_constant lawa second ((p - n) % p)
    ++ put_constant lawb third n ++ constant lawb fourth 1 ∷ []

-- What is put of a device, by its kind: by its own equations and unknowns and its nodes, each in order, its source's
-- current and its number.
abbrev pub put_among : ℕ → DeviceKind → (ℕ → List ℕ) → (ℕ → List ℕ) → (ℕ → List ℕ) → List ℕ → ℕ → List Term
put_among p Passive e u n source number = put_between p (e 0) (u 0) (u 1) (n 0) (n 1) ++ put_symbols (e 1) (u 0) (u 1)
put_among p Voltage e u n source number = put_between p (e 0) (u 0) (u 1) (n 0) (n 1) ++ constant (e 1) (u 0) 1 ∷ []
put_among p Current e u n source number = put_between p (e 0) (u 0) (u 1) (n 0) (n 1) ++ constant (e 1) (u 1) 1 ∷ []
put_among p VoltageByVoltage e u n source number =
    put_between p (e 0) (u 0) (u 1) (n 0) (n 1) ++ put_voltage p (e 1) (u 2) (n 2) (n 3)
    ++ put_symbols (e 2) (u 0) (u 2)
put_among p CurrentByVoltage e u n source number =
    put_between p (e 0) (u 0) (u 1) (n 0) (n 1) ++ put_voltage p (e 1) (u 2) (n 2) (n 3)
    ++ put_symbols (e 2) (u 1) (u 2)
put_among p CurrentByCurrent e u n source number =
    put_between p (e 0) (u 0) (u 1) (n 0) (n 1) ++ put_symbols (e 1) (u 1) source
put_among p VoltageByCurrent e u n source number =
    put_between p (e 0) (u 0) (u 1) (n 0) (n 1) ++ put_symbols (e 1) (u 0) source
put_among p Opamp e u n source number = put_flow p (u 0) (n 2) ground ++ put_difference p (e 0) (n 0) (n 1)
put_among p Transformer e u n source number =
    put_between p (e 0) (u 0) (u 1) (n 0) (n 1) ++ put_between p (e 1) (u 2) (u 3) (n 2) (n 3)
    ++ put_laws p (e 2) (e 3) (u 0) (u 2) (u 1) (u 3) number
put_among p Gyrator e u n source number =
    put_between p (e 0) (u 0) (u 1) (n 0) (n 1) ++ put_between p (e 1) (u 2) (u 3) (n 2) (n 3)
    ++ put_laws p (e 2) (e 3) (u 0) (u 3) (u 1) (u 2) number

-- What is put of a device, by its kind.
abbrev pub put_by : ℕ → DeviceKind → Device → List Term
put_by p kind d =
    put_among p kind (λ w. own d (name_at (equation_words kind) w)) (λ w. own d (name_at (unknown_words kind) w))
    (node d) (dotted (codes "i") d.source) d.number

-- a device is none of these, and is not its own source
pub record IsNew (earlier : List Device) (device : Device) : Type 0 where
  pub name : has_name (device_names earlier) device.name ≡ false
  pub source : has_source device.kind ≡ true → bytes_eq device.source device.name ≡ false

-- What putting the terms of a device leaves, whatever devices were put before.
abbrev pub PutsDevice : ℕ → MixedModel → MixedModel → Device → Type 0
PutsDevice p old new device =
    (earlier : List Device) → Says p (terms_of p earlier) old → IsNew earlier device
    → Says p (terms_of p (earlier ++ device ∷ [])) new

-- Why they are not put.
abbrev pub LacksMemory : ℕ → MixedModel → Device → AddError → Type 0
LacksMemory p old device error =
    (earlier : List Device) → Says p (terms_of p earlier) old → IsNew earlier device → error ≡ NoMemory
