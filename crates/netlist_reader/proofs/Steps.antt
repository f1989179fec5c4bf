-- The terms of one device more.
use Rattle.std.proofs.Common.{◌≡◌, ℕ, ◌+◌, ◌<◌, Bool, true, false, not, ◌&&◌, ◌||◌, List, [], ◌∷◌, ◌++◌, take, length}
use Rattle.std.proofs.Common.{get_or, zero, suc, refl, sym, ap, subst, ◌∙◌, arith, append-nil}
use Rattle.std.specs.List.{IsDistinct, list_all}
use Rattle.std.specs.Str.{bytes_eq}
use Rattle.std.proofs.Math.Bool.{or-true}
use Rattle.std.proofs.lemmas.List.{get_or-map, length-map, take-map, take_more}
use Rattle.std.proofs.lemmas.List.Folds.{list_all_at}
use Rattle.std.proofs.lemmas.Slice.Eq.{bytes_eq-Decides}
use Rattle.mixed_model.specs.Models.{MixedModel}
use Rattle.mixed_model.specs.Names.{has_name}
use Rattle.mixed_model.specs.declared.errors.AddError.{AddError}
use Rattle.term_model.specs.Putting.{AreFree, LacksRoom, PutsTerms, Says}
use Rattle.term_model.proofs.Adding.{new_among}
use Rattle.term_model.proofs.Clearing.{free-split}
use Rattle.term_model.proofs.Lists.{Differ, distinct-differ}
use Rattle.netlist_devices.specs.declared.kind.DeviceKind.{DeviceKind}
use Rattle.netlist_devices.specs.declared.kind.DeviceKind.TheVariants.{Passive, Voltage, Current, VoltageByVoltage}
use Rattle.netlist_devices.specs.declared.kind.DeviceKind.TheVariants.{CurrentByVoltage, CurrentByCurrent}
use Rattle.netlist_devices.specs.declared.kind.DeviceKind.TheVariants.{VoltageByCurrent, Opamp, Transformer, Gyrator}
use Rattle.netlist_devices.specs.Devices.{Device, device_names, has_source}
use Rattle.netlist_reader.specs.Terms.{terms_of}
use Rattle.refusals.specs.declared.Why.TheVariants.{NoSuchSource}
use Rattle.netlist_devices.specs.Rules.{is_source, is_voltage, unless}
use Rattle.netlist_devices.specs.Circuits.{AreSourced, IsDevice}
use Rattle.netlist_reader.specs.Putting.{IsNew, LacksMemory, PutsDevice, put_by}
use Rattle.netlist_reader.proofs.Apart.{device-free}
use Rattle.netlist_reader.proofs.Forms.{forms}
use Rattle.netlist_reader.proofs.Placed.{new-free}
use Rattle.netlist_reader.proofs.Sames.{says_device}

-- where the terms of a new device are to stand, nothing stands
new_device-free : (p : ℕ) (earlier : List Device) (d : Device) → 2 < p → IsDevice p d → IsNew earlier d → AreFree (terms_of p earlier) (put_by p d.kind d)
new_device-free p earlier d big is new =
    subst (λ before. AreFree before (put_by p d.kind d)) (append-nil (terms_of p earlier))
    (free-split (terms_of p earlier) [] (put_by p d.kind d) (new-free p earlier d (put_by p d.kind d) new.name
    (forms p d big d.kind refl is.nodes_wanted)) (device-free p d d.kind new.source))

pub device_says : (p : ℕ) (old now : MixedModel) (d : Device) → 2 < p → IsDevice p d → PutsTerms p old now (put_by p d.kind d) → PutsDevice p old now d
device_says p old now d big is puts earlier says new =
    says_device p d big is.number earlier now (puts (terms_of p earlier) says (new_device-free p earlier d big is new))

pub device_refused : (p : ℕ) (old : MixedModel) (d : Device) (error : AddError) → 2 < p → IsDevice p d →
    LacksRoom p old (put_by p d.kind d) error → LacksMemory p old d error
device_refused p old d error big is lacks earlier says new = lacks (terms_of p earlier) says (new_device-free p earlier d big is new)

-- a device that has a source is no V device
no_voltage : (kind : DeviceKind) → has_source kind ≡ true → is_voltage kind ≡ true → ⊥
no_voltage Voltage has is = cc
no_voltage Passive has is = cc
no_voltage Current has is = cc
no_voltage VoltageByVoltage has is = cc
no_voltage CurrentByVoltage has is = cc
no_voltage CurrentByCurrent has is = cc
no_voltage VoltageByCurrent has is = cc
no_voltage Opamp has is = cc
no_voltage Transformer has is = cc
no_voltage Gyrator has is = cc

-- a source is a device's name
source-named : (devices : List Device) (name : List ℕ) → is_source devices name ≡ true → has_name (device_names devices) name ≡ true
source-named [] name is = let g : ⊥ = cc in absurd g
source-named (first ∷ devices) name is = by (is_voltage first.kind) (bytes_eq name first.name) refl is (source-named devices name)
  where
    by : (a b : Bool) → bytes_eq name first.name ≡ b → ((a && b) || is_source devices name) ≡ true →
        (is_source devices name ≡ true → has_name (device_names devices) name ≡ true) →
        has_name (device_names (first ∷ devices)) name ≡ true
    by a true e is more = ap (λ b. b || has_name (device_names devices) name) e
    by true false e is more = (λ t. bytes_eq name first.name || more is t) ∙ or-true (bytes_eq name first.name)
    by false false e is more = (λ t. bytes_eq name first.name || more is t) ∙ or-true (bytes_eq name first.name)

named-there : (devices : List Device) (i : ℕ) (d : Device) → i < length devices → d ≡ get_or devices i d → has_name (device_names devices) d.name ≡ true
named-there [] i d within is = absurd (omega arith)
named-there (first ∷ devices) zero d within is = ap (λ b. b || has_name (device_names devices) d.name)
    ((bytes_eq-Decides d.name first.name).1 (ap (λ (other : Device). other.name) is))
named-there (first ∷ devices) (suc i) d within is = (λ t. bytes_eq d.name first.name || named-there devices i d
    (omega arith) is t) ∙ or-true (bytes_eq d.name first.name)

-- the V device of a name is the one of that name
the_source : (devices : List Device) (i : ℕ) (d : Device) → Differ (device_names devices) → i < length devices →
    d ≡ get_or devices i d → is_source devices d.name ≡ true → is_voltage d.kind ≡ true
the_source [] i d differ within is source = absurd (omega arith)
the_source (first ∷ devices) zero d differ within is source = by (is_voltage first.kind) refl (bytes_eq d.name first.name) source
  where
    by : (a : Bool) → is_voltage first.kind ≡ a → (b : Bool) → ((a && b) || is_source devices d.name) ≡ true → is_voltage d.kind ≡ true
    by true e b source = ap (λ (other : Device). is_voltage other.kind) is ∙ e
    by false e b source =
        let there : has_name (device_names devices) first.name ≡ true =
        ap (λ (other : Device). has_name (device_names devices) other.name) (sym is)
        ∙ source-named devices d.name source in
        let both : true ≡ false = sym there ∙ differ.0 in
        let g : ⊥ = cc in absurd g
the_source (first ∷ devices) (suc i) d differ within is source = by (is_voltage first.kind)
    (bytes_eq d.name first.name) refl source (the_source devices i d differ.1 (omega arith) is)
  where
    by : (a b : Bool) → bytes_eq d.name first.name ≡ b → ((a && b) || is_source devices d.name) ≡ true →
        (is_source devices d.name ≡ true → is_voltage d.kind ≡ true) → is_voltage d.kind ≡ true
    by a true e source more =
        let there : has_name (device_names devices) first.name ≡ true = ap (has_name (device_names devices))
        (sym ((bytes_eq-Decides d.name first.name).0 e)) ∙ named-there devices i d (omega arith) is in
        let both : true ≡ false = sym there ∙ differ.0 in
        let g : ⊥ = cc in absurd g
    by true false e source more = more source
    by false false e source more = more source

module _ (p : ℕ) (devices : List Device) (distinct : IsDistinct bytes_eq (device_names devices))
    (are : AreSourced devices) (i : ℕ) (d : Device) (within : i < length devices) (is : d ≡ get_or devices i d) where
  all_sourced : list_all (λ (device : Device). not (has_source device.kind) || is_source devices device.source) devices ≡ true
  all_sourced = by (list_all (λ (device : Device). not (has_source device.kind) || is_source devices device.source) devices) refl
    where
      by : (b : Bool) → list_all (λ (device : Device). not
          (has_source device.kind) || is_source devices device.source) devices ≡ b →
          list_all (λ (device : Device). not (has_source device.kind) || is_source devices device.source) devices ≡ true
      by true e = e
      by false e = let broken = sym are ∙ ap (λ b. unless b NoSuchSource) e in let g : ⊥ = cc in absurd g

  abbrev is_sourced : Device → Bool
  is_sourced device = not (has_source device.kind) || is_source devices device.source

  sourced_here : is_sourced (get_or devices i d) ≡ true
  sourced_here = by (is_sourced (get_or devices i d)) refl
    where
      by : (b : Bool) → is_sourced (get_or devices i d) ≡ b → is_sourced (get_or devices i d) ≡ true
      by true e = e
      by false e = let both : true ≡ false = sym all_sourced ∙ list_all_at is_sourced devices i d within e in let g : ⊥ = cc in absurd g

  pub sourced : has_source d.kind ≡ true → is_source devices d.source ≡ true
  sourced has =
      let mine : (not (has_source d.kind) || is_source devices d.source) ≡ true = ap is_sourced is ∙ sourced_here in
      ap (λ b. not b || is_source devices d.source) (sym has) ∙ mine

  pub is_new : IsNew (take i devices) d
  is_new = record {
    name =
        let names = device_names devices in
        let long : i < length names = omega (arith, within, length-map devices (λ (device : Device). device.name)) in
        let at : get_or names i [] ≡ d.name = get_or-map (λ (device : Device). device.name) devices i d [] within
        ∙ ap (λ (device : Device). device.name) (sym is) in
        ap (λ before. has_name before d.name) (sym (take-map (λ (device : Device). device.name) i devices)) ∙ new_among names i d.name distinct long at;
    source = λ has. by has (bytes_eq d.source d.name) refl;
  }
    where
      by : has_source d.kind ≡ true → (b : Bool) → bytes_eq d.source d.name ≡ b → bytes_eq d.source d.name ≡ false
      by has false e = e
      by has true e =
          let same : d.source ≡ d.name = (bytes_eq-Decides d.source d.name).0 e in
          absurd (no_voltage d.kind has (the_source devices i d
          (distinct-differ (device_names devices) distinct) within is (ap (is_source devices) (sym same)
          ∙ sourced has)))

  pub next_says : (model : MixedModel) → Says p (terms_of p (take i devices ++ d ∷ [])) model → Says p (terms_of p (take (i + 1) devices)) model
  next_says model = subst (λ front. Says p (terms_of p front) model) (ap (λ last. take i devices ++ last ∷ []) is ∙ sym (take_more devices i d within))
