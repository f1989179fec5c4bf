-- Each term of a device stands at a place of the device.
use Rattle.std.proofs.Common.{◌≡◌, ℕ, ◌-◌, Bool, true, false, cond, List, [], ◌∷◌, ◌++◌, codes, refl}
use Rattle.std.specs.List.{AllByRecursion}
use Rattle.term_model.specs.Terms.{Term, constant, dotted}
use Rattle.term_model.proofs.Lists.{all-append}
use Rattle.netlist_devices.specs.declared.kind.DeviceKind.{DeviceKind}
use Rattle.netlist_devices.specs.declared.kind.DeviceKind.TheVariants.{Passive, Voltage, Current, VoltageByVoltage}
use Rattle.netlist_devices.specs.declared.kind.DeviceKind.TheVariants.{CurrentByVoltage, CurrentByCurrent}
use Rattle.netlist_devices.specs.declared.kind.DeviceKind.TheVariants.{VoltageByCurrent, Opamp, Transformer, Gyrator}
use Rattle.netlist_devices.specs.Devices.{Device, is_ground, ground}
use Rattle.netlist_reader.specs.Owners.{owner_of}
use Rattle.netlist_reader.specs.Terms.{difference, current_terms, node_voltage, node_current, voltage_is, terms_by, own, node}
use Rattle.netlist_reader.specs.Terms.{branch_between, branch, control, two_branches, proportion}

-- a term stands at a place of this device
abbrev pub Owned : List ℕ → Term → Type 0
Owned name term = owner_of term.equation term.unknown ≡ name

abbrev pub AreOwned : List ℕ → List Term → Type 0
AreOwned name terms = AllByRecursion (Owned name) terms

both : (name : List ℕ) (xs ys : List Term) → AreOwned name xs → AreOwned name ys → AreOwned name (xs ++ ys)
both name = all-append (Owned name)

voltage-owned : (name equation n : List ℕ) (k : ℕ) → ((unknown : List ℕ) → owner_of equation unknown ≡ name) → AreOwned name (node_voltage equation k n)
voltage-owned name equation n k owned = by (is_ground n)
  where
    by : (b : Bool) → AreOwned name (cond b [] (constant equation (dotted (codes "u") n) k ∷ []))
    by true = tt
    by false = (owned (dotted (codes "u") n), tt)

current-owned : (name current n : List ℕ) (k : ℕ) → owner_of (dotted (codes "kcl") n) current ≡ name → AreOwned name (node_current current k n)
current-owned name current n k owned = by (is_ground n)
  where
    by : (b : Bool) → AreOwned name (cond b [] (constant (dotted (codes "kcl") n) current k ∷ []))
    by true = tt
    by false = (owned, tt)

module _ (p : ℕ) (d : Device) where
  difference-owned : (equation plus minus : List ℕ) → ((unknown : List ℕ) → owner_of equation unknown ≡ d.name) →
      AreOwned d.name (difference p equation plus minus)
  difference-owned equation plus minus owned =
      both d.name (node_voltage equation 1 plus) (node_voltage equation (p - 1) minus)
      (voltage-owned d.name equation plus 1 owned) (voltage-owned d.name equation minus (p - 1) owned)

  flow-owned : (current plus minus : List ℕ) → ((n : List ℕ) → owner_of (dotted (codes "kcl") n) current ≡ d.name) → AreOwned d.name
      (current_terms p current plus minus)
  flow-owned current plus minus owned =
      both d.name (node_current current 1 plus) (node_current current (p - 1) minus)
      (current-owned d.name current plus 1 (owned plus)) (current-owned d.name current minus (p - 1)
      (owned minus))

  voltage_is-owned : (equation voltage plus minus : List ℕ) →
      ((unknown : List ℕ) → owner_of equation unknown ≡ d.name) →
      AreOwned d.name (voltage_is p equation voltage plus minus)
  voltage_is-owned equation voltage plus minus owned = (owned voltage, difference-owned equation minus plus owned)

  between-owned : (kvl v i plus minus : List ℕ) → ((unknown : List ℕ) → owner_of (own d kvl) unknown ≡ d.name) →
      ((n : List ℕ) → owner_of (dotted (codes "kcl") n) (own d i) ≡ d.name) →
      AreOwned d.name (branch_between p d kvl v i plus minus)
  between-owned kvl v i plus minus first second =
      both d.name (voltage_is p (own d kvl) (own d v) plus minus) (current_terms p (own d i) plus minus)
      (voltage_is-owned (own d kvl) (own d v) plus minus first) (flow-owned (own d i) plus minus second)

  branch-owned : AreOwned d.name (branch p d)
  branch-owned = between-owned (codes "kvl") (codes "v") (codes "i") (node d 0) (node d 1) (λ unknown. refl) (λ n. refl)

  control-owned : AreOwned d.name (control p d)
  control-owned = voltage_is-owned (own d (codes "ctl")) (own d (codes "w")) (node d 2) (node d 3) (λ unknown. refl)

  branches-owned : AreOwned d.name (two_branches p d)
  branches-owned =
      both d.name (branch_between p d (codes "kvla") (codes "va") (codes "ia") (node d 0) (node d 1))
      (branch_between p d (codes "kvlb") (codes "vb") (codes "ib") (node d 2) (node d 3))
      (between-owned (codes "kvla") (codes "va") (codes "ia") (node d 0) (node d 1) (λ unknown. refl) (λ n. refl))
      (between-owned (codes "kvlb") (codes "vb") (codes "ib") (node d 2) (node d 3) (λ unknown. refl) (λ n. refl))

  pub device-owned : (kind : DeviceKind) → AreOwned d.name (terms_by p kind d)
  device-owned Passive = both d.name (branch p d) (proportion d (own d (codes "v")) (own d (codes "i"))) branch-owned (refl, (refl, tt))
  device-owned Voltage = both d.name (branch p d) (constant (own d (codes "law")) (own d (codes "v")) 1 ∷ []) branch-owned (refl, tt)
  device-owned Current = both d.name (branch p d) (constant (own d (codes "law")) (own d (codes "i")) 1 ∷ []) branch-owned (refl, tt)
  device-owned VoltageByVoltage = both d.name (branch p d ++ control p d)
      (proportion d (own d (codes "v")) (own d (codes "w")))
      (both d.name (branch p d) (control p d) branch-owned control-owned) (refl, (refl, tt))
  device-owned CurrentByVoltage = both d.name (branch p d ++ control p d)
      (proportion d (own d (codes "i")) (own d (codes "w")))
      (both d.name (branch p d) (control p d) branch-owned control-owned) (refl, (refl, tt))
  device-owned CurrentByCurrent = both d.name (branch p d) (proportion d (own d (codes "i")) (dotted (codes "i") d.source)) branch-owned (refl, (refl, tt))
  device-owned VoltageByCurrent = both d.name (branch p d) (proportion d (own d (codes "v")) (dotted (codes "i") d.source)) branch-owned (refl, (refl, tt))
  device-owned Opamp =
      both d.name (current_terms p (own d (codes "i")) (node d 2) ground) (difference p (own d (codes "law")) (node d 0) (node d 1))
      (flow-owned (own d (codes "i")) (node d 2) ground (λ n. refl))
      (difference-owned (own d (codes "law")) (node d 0) (node d 1) (λ unknown. refl))
  device-owned Transformer = both d.name (two_branches p d) _ branches-owned (refl, (refl, (refl, (refl, tt))))
  device-owned Gyrator = both d.name (two_branches p d) _ branches-owned (refl, (refl, (refl, (refl, tt))))
