-- The V device of a name.
use Rattle.std.proofs.Common.{◌≡◌, ℕ, zero, suc, ◌<◌, Bool, true, false, ◌&&◌, ◌||◌, List, [], ◌∷◌, length, get_or}
use Rattle.std.proofs.Common.{position, Some, None, refl, sym, ap, ◌∙◌, arith}
use Rattle.std.specs.List.{AllByRecursion, IsDistinct}
use Rattle.std.specs.Str.{bytes_eq}
use Rattle.std.proofs.lemmas.List.{length-map}
use Rattle.std.proofs.lemmas.List.Folds.{list_any_at}
use Rattle.std.proofs.lemmas.Map.Keys.{IsDistinct-head, IsDistinct-tail}
use Rattle.std.proofs.lemmas.Slice.Eq.{bytes_eq-Decides}
use Rattle.mixed_model.specs.Names.{has_name}
use Rattle.mixed_model.proofs.NameLaws.{has_name-None, has_name-Some}
use Rattle.netlist_devices.specs.Devices.{Device, device_names}
use Rattle.netlist_devices.specs.Rules.{is_source, is_voltage}

and_false : (b : Bool) → (b && false) ≡ false
and_false true = refl
and_false false = refl

and_true : (b : Bool) → (b && true) ≡ b
and_true true = refl
and_true false = refl

or_false : (b : Bool) → (b || false) ≡ b
or_false true = refl
or_false false = refl

-- a name that no device has is that of no V device
none_named : (devices : List Device) (name : List ℕ) → has_name (device_names devices) name ≡ false → is_source devices name ≡ false
none_named [] name none = refl
none_named (device ∷ devices) name none = by (bytes_eq name device.name) refl none (none_named devices name)
  where
    by : (b : Bool) → bytes_eq name device.name ≡ b → (b || has_name (device_names devices) name) ≡ false →
        (has_name (device_names devices) name ≡ false → is_source devices name ≡ false) →
        is_source (device ∷ devices) name ≡ false
    by true e none rest = absurd cc
    by false e none rest = (λ i. (is_voltage device.kind && e i) || rest none i)
        ∙ or_false (is_voltage device.kind && false) ∙ and_false (is_voltage device.kind)

-- names that differ from one do not have it
apart : (name : List ℕ) (names : List (List ℕ)) → AllByRecursion (λ other. bytes_eq name other ≡ false) names → has_name names name ≡ false
apart name [] all = refl
apart name (other ∷ names) all = (λ i. all.0 i || apart name names all.1 i)

-- the device of a name that stands behind another has another name
later : (x y : List ℕ) (names : List (List ℕ)) (k : ℕ) → has_name names x ≡ false → k < length names → get_or names k [] ≡ y → bytes_eq y x ≡ false
later x y names k fresh at same = by (bytes_eq y x) refl
  where
    by : (b : Bool) → bytes_eq y x ≡ b → bytes_eq y x ≡ false
    by false e = e
    by true e =
        let equal : y ≡ x = (bytes_eq-Decides y x).0 e in
        let there : has_name names x ≡ true = list_any_at (bytes_eq x) names k [] at ((bytes_eq-Decides x (get_or names k [])).1 (sym equal ∙ sym same)) in
        absurd cc

-- whether a name is that of a V device tells the device of that name
pub voltage_at : (devices : List Device) (name : List ℕ) (k : ℕ) (d : Device) →
    IsDistinct bytes_eq (device_names devices) → k < length devices → get_or (device_names devices) k [] ≡ name →
    is_source devices name ≡ is_voltage (get_or devices k d).kind
voltage_at [] name k d distinct at same = absurd (omega arith)
voltage_at (device ∷ devices) name zero d distinct at same =
    let fresh : has_name (device_names devices) name ≡ false = ap (has_name (device_names devices)) (sym same)
    ∙ apart device.name (device_names devices) (IsDistinct-head bytes_eq device.name
    (device_names devices) distinct) in
    let here : bytes_eq name device.name ≡ true = (bytes_eq-Decides name device.name).1 (sym same) in
    (λ i. (is_voltage device.kind && here i) || none_named devices name fresh i) ∙ or_false (is_voltage device.kind && true) ∙ and_true (is_voltage device.kind)
voltage_at (device ∷ devices) name (suc k) d distinct at same =
    let fresh = apart device.name (device_names devices) (IsDistinct-head bytes_eq device.name (device_names devices) distinct) in
    let before : k < length devices = omega arith in
    let other : bytes_eq name device.name ≡ false = later device.name name (device_names devices) k fresh
    (omega (arith, before, length-map devices (λ (d : Device). d.name))) same in
    (λ i. (is_voltage device.kind && other i) || is_source devices name) ∙ (λ i. and_false (is_voltage device.kind) i || is_source devices name)
    ∙ voltage_at devices name k d (IsDistinct-tail bytes_eq device.name (device_names devices) distinct) before same

-- by what was found
pub source_found : (devices : List Device) (names : List (List ℕ)) (name : List ℕ) (k : ℕ) (d : Device) →
    IsDistinct bytes_eq (device_names devices) → names ≡ device_names devices →
    position (bytes_eq name) names ≡ Some k → (k < length devices)
    × (is_voltage (get_or devices k d).kind ≡ is_source devices name)
source_found devices names name k d distinct all found =
    let there = has_name-Some names name k found in
    let at : k < length devices = omega (arith, there.0, ap length all, length-map devices (λ (d : Device). d.name)) in
    (at, sym (voltage_at devices name k d distinct at (ap (λ list. get_or list k []) (sym all) ∙ there.1)))

pub source_lost : (devices : List Device) (names : List (List ℕ)) (name : List ℕ) → names ≡ device_names devices →
    position (bytes_eq name) names ≡ None → false ≡ is_source devices name
source_lost devices names name all lost = sym (none_named devices name (ap (λ list. has_name list name) (sym all) ∙ has_name-None names name lost))
