-- Each term that is put of a device stands at a place of the model, and none of another device there.
use Rattle.std.proofs.Common.{◌≡◌, ℕ, ◌<◌, inl, inr, Bool, true, false, cond, not, ◌&&◌, ◌||◌, List, [], ◌∷◌, ◌++◌}
use Rattle.std.proofs.Common.{map, filter, codes, length, get_or, zero, suc, refl, sym, ap, subst, ◌∙◌, arith}
use Rattle.std.specs.List.{AllByRecursion, flat_map, list_any}
use Rattle.std.specs.Str.{bytes_eq}
use Rattle.std.proofs.Math.Bool.{or-true}
use Rattle.std.proofs.lemmas.List.Concat.{flat_map-cons}
use Rattle.std.proofs.lemmas.List.Folds.{list_any-append}
use Rattle.std.proofs.lemmas.Slice.Eq.{bytes_eq-Decides}
use Rattle.mixed_model.specs.Names.{has_name}
use Rattle.term_model.specs.Putting.{IsFree, IsPlaced}
use Rattle.term_model.specs.Terms.{Term, dotted, stands_at}
use Rattle.term_model.proofs.NamesAmong.{has-left, has-map, has-right, seen-there}
use Rattle.term_model.proofs.OwnNames.{own-there}
use Rattle.netlist_devices.specs.declared.kind.DeviceKind.{DeviceKind}
use Rattle.netlist_devices.specs.declared.kind.DeviceKind.TheVariants.{Passive, Voltage, Current, VoltageByVoltage}
use Rattle.netlist_devices.specs.declared.kind.DeviceKind.TheVariants.{CurrentByVoltage, CurrentByCurrent}
use Rattle.netlist_devices.specs.declared.kind.DeviceKind.TheVariants.{VoltageByCurrent, Opamp, Transformer, Gyrator}
use Rattle.netlist_devices.specs.Devices.{Device, is_ground, nodes_of, device_names, has_source}
use Rattle.netlist_reader.specs.Owners.{owner_of}
use Rattle.netlist_devices.specs.EquationNames.{own_names, equation_words, unknown_words, equations_of, unknowns_of}
use Rattle.netlist_reader.specs.Terms.{own, terms_of, terms_by}
use Rattle.netlist_devices.specs.Rules.{is_source, is_voltage}
use Rattle.netlist_reader.proofs.Forms.{HasForm, Place, IsNodeOf}
use Rattle.netlist_reader.proofs.Owned.{Owned, AreOwned, device-owned}

filter-there : (names : List (List ℕ)) (name : List ℕ) → is_ground name ≡ false → has_name names name ≡ true →
    has_name (filter (λ node. not (is_ground node)) names) name ≡ true
filter-there [] name above there = let g : ⊥ = cc in absurd g
filter-there (other ∷ names) name above there = by (bytes_eq name other) refl there (filter-there names name above)
  where
    skip : (b : Bool) → has_name (filter (λ node. not (is_ground node)) names) name ≡ true →
        has_name (cond b (other ∷ filter (λ node. not (is_ground node)) names)
        (filter (λ node. not (is_ground node)) names)) name ≡ true
    skip true rest = (λ t. bytes_eq name other || rest t) ∙ or-true (bytes_eq name other)
    skip false rest = rest

    by : (b : Bool) → bytes_eq name other ≡ b → (b || has_name names name) ≡ true →
        (has_name names name ≡ true → has_name (filter (λ node. not (is_ground node)) names) name ≡ true) →
        has_name (filter (λ node. not (is_ground node)) (other ∷ names)) name ≡ true
    by true e there more =
        let same : name ≡ other = (bytes_eq-Decides name other).0 e in
        let kept : not (is_ground other) ≡ true = ap (λ n. not (is_ground n)) (sym same) ∙ ap not above in
        ap (λ b. has_name (cond b (other ∷ filter (λ node. not (is_ground node)) names) (filter (λ node. not (is_ground node)) names)) name) kept
        ∙ ap (λ b. b || has_name (filter (λ node. not (is_ground node)) names) name) e
    by false e there more = skip (not (is_ground other)) (more there)

nodes-there : (devices : List Device) (i : ℕ) (d : Device) (node : List ℕ) → i < length devices →
    d ≡ get_or devices i d → has_name d.nodes node ≡ true →
    has_name (flat_map (λ (device : Device). device.nodes) devices) node ≡ true
nodes-there [] i d node within is there = absurd (omega arith)
nodes-there (first ∷ devices) zero d node within is there =
    ap (λ names. has_name names node) (flat_map-cons (λ (device : Device). device.nodes) first devices)
    ∙ has-left first.nodes (flat_map (λ (device : Device). device.nodes) devices) node (ap (λ (other : Device). has_name other.nodes node) (sym is) ∙ there)
nodes-there (first ∷ devices) (suc i) d node within is there =
    ap (λ names. has_name names node) (flat_map-cons (λ (device : Device). device.nodes) first devices)
    ∙ has-right first.nodes (flat_map (λ (device : Device). device.nodes) devices) node (nodes-there devices i d node (omega arith) is there)

-- a V device of this name has a current
voltage_kind : (kind : DeviceKind) → is_voltage kind ≡ true → has_name (unknown_words kind) (codes "i") ≡ true
voltage_kind Passive is = refl
voltage_kind Voltage is = refl
voltage_kind Current is = refl
voltage_kind VoltageByVoltage is = refl
voltage_kind CurrentByVoltage is = refl
voltage_kind CurrentByCurrent is = refl
voltage_kind VoltageByCurrent is = refl
voltage_kind Opamp is = refl
voltage_kind Transformer is = let g : ⊥ = cc in absurd g
voltage_kind Gyrator is = let g : ⊥ = cc in absurd g

source-there : (devices : List Device) (name : List ℕ) → is_source devices name ≡ true →
    has_name (own_names unknown_words devices) (dotted (codes "i") name) ≡ true
source-there [] name is = let g : ⊥ = cc in absurd g
source-there (first ∷ devices) name is =
    ap (λ names. has_name names (dotted (codes "i") name))
    (flat_map-cons (λ (device : Device). map (λ word. dotted word device.name)
    (unknown_words device.kind)) first devices)
    ∙ by (is_voltage first.kind) refl (bytes_eq name first.name) refl is (source-there devices name)
  where
    own_first : List (List ℕ)
    own_first = map (λ word. dotted word first.name) (unknown_words first.kind)

    by : (a : Bool) → is_voltage first.kind ≡ a → (b : Bool) → bytes_eq name first.name ≡ b →
        ((a && b) || is_source devices name) ≡ true →
        (is_source devices name ≡ true → has_name (own_names unknown_words devices) (dotted (codes "i") name) ≡ true) →
        has_name (map (λ word. dotted word first.name)
        (unknown_words first.kind) ++ own_names unknown_words devices) (dotted (codes "i") name) ≡ true
    by true e true f is more =
        subst (λ other. has_name (map (λ word. dotted word first.name)
        (unknown_words first.kind) ++ own_names unknown_words devices) (dotted (codes "i") other) ≡ true)
        (sym ((bytes_eq-Decides name first.name).0 f))
        (has-left (map (λ word. dotted word first.name) (unknown_words first.kind))
        (own_names unknown_words devices) (dotted (codes "i") first.name)
        (has-map (λ word. dotted word first.name) (unknown_words first.kind) (codes "i")
        (voltage_kind first.kind e)))
    by true e false f is more = has-right (map (λ word. dotted word first.name) (unknown_words first.kind))
        (own_names unknown_words devices) (dotted (codes "i") name) (more is)
    by false e b f is more = has-right (map (λ word. dotted word first.name) (unknown_words first.kind))
        (own_names unknown_words devices) (dotted (codes "i") name) (more is)

module _ (devices : List Device) (i : ℕ) (d : Device) (within : i < length devices) (is : d ≡ get_or devices i d)
    (sourced : has_source d.kind ≡ true → is_source devices d.source ≡ true) where
  equation-own : (word : List ℕ) → has_name (equation_words d.kind) word ≡ true → has_name (equations_of devices) (own d word) ≡ true
  equation-own word there = has-right (map (dotted (codes "kcl")) (nodes_of devices))
      (own_names equation_words devices) (own d word) (own-there (λ (device : Device). device.name)
      (λ (device : Device). equation_words device.kind) devices i d word within is there)

  unknown-own : (word : List ℕ) → has_name (unknown_words d.kind) word ≡ true → has_name (unknowns_of devices) (own d word) ≡ true
  unknown-own word there = has-right (map (dotted (codes "u")) (nodes_of devices)) (own_names unknown_words devices)
      (own d word) (own-there (λ (device : Device). device.name)
      (λ (device : Device). unknown_words device.kind) devices i d word within is there)

  pub node-seen : (node : List ℕ) → IsNodeOf d node → has_name (nodes_of devices) node ≡ true
  node-seen node of = seen-there [] (filter (λ node. not (is_ground node))
      (flat_map (λ (device : Device). device.nodes) devices)) node
      (filter-there (flat_map (λ (device : Device). device.nodes) devices) node of.above
      (nodes-there devices i d node within is of.there))

  equation-node : (node : List ℕ) → IsNodeOf d node → has_name (equations_of devices) (dotted (codes "kcl") node) ≡ true
  equation-node node of = has-left (map (dotted (codes "kcl")) (nodes_of devices))
      (own_names equation_words devices) (dotted (codes "kcl") node)
      (has-map (dotted (codes "kcl")) (nodes_of devices) node (node-seen node of))

  unknown-node : (node : List ℕ) → IsNodeOf d node → has_name (unknowns_of devices) (dotted (codes "u") node) ≡ true
  unknown-node node of = has-left (map (dotted (codes "u")) (nodes_of devices)) (own_names unknown_words devices)
      (dotted (codes "u") node) (has-map (dotted (codes "u")) (nodes_of devices) node (node-seen node of))

  placed : (t : Term) → HasForm d t → IsPlaced (equations_of devices) (unknowns_of devices) t
  placed t form = by form.place
    where
      by : Place d t → IsPlaced (equations_of devices) (unknowns_of devices) t
      by (inl at) = record {
        equation = ap (has_name (equations_of devices)) at.equation ∙ equation-own at.equation_word at.equation_there;
        unknown = ap (has_name (unknowns_of devices)) at.unknown ∙ unknown-own at.unknown_word at.unknown_there;
      }
      by (inr (inl at)) = record {
        equation = ap (has_name (equations_of devices)) at.equation ∙ equation-own at.equation_word at.equation_there;
        unknown = ap (has_name (unknowns_of devices)) at.unknown ∙ unknown-node at.node at.node_is;
      }
      by (inr (inr (inl at))) = record {
        equation = ap (has_name (equations_of devices)) at.equation ∙ equation-node at.node at.node_is;
        unknown = ap (has_name (unknowns_of devices)) at.unknown ∙ unknown-own at.unknown_word at.unknown_there;
      }
      by (inr (inr (inr at))) = record {
        equation = ap (has_name (equations_of devices)) at.equation ∙ equation-own (codes "law") at.law_there;
        unknown = ap (has_name (unknowns_of devices)) at.unknown
            ∙ has-right (map (dotted (codes "u")) (nodes_of devices)) (own_names unknown_words devices)
            (dotted (codes "i") d.source) (source-there devices d.source (sourced at.source));
      }

  pub all-placed : (terms : List Term) → AllByRecursion (HasForm d) terms → AllByRecursion (IsPlaced (equations_of devices) (unknowns_of devices)) terms
  all-placed [] forms = tt
  all-placed (t ∷ terms) forms = (placed t forms.0, all-placed terms forms.1)

-- the owner of a term, by its form
abbrev Owns : List (List ℕ) → Type 0
Owns [] = Unit {0}
Owns (word ∷ words) = ((name unknown : List ℕ) → owner_of (dotted word name) unknown ≡ name) × Owns words

abbrev OwnsCurrent : List (List ℕ) → Type 0
OwnsCurrent [] = Unit {0}
OwnsCurrent (word ∷ words) = ((name n : List ℕ) → owner_of (dotted (codes "kcl") n) (dotted word name) ≡ name) × OwnsCurrent words

owns : (kind : DeviceKind) → Owns (equation_words kind)
owns Passive = ((λ name unknown. refl), ((λ name unknown. refl), tt))
owns Voltage = ((λ name unknown. refl), ((λ name unknown. refl), tt))
owns Current = ((λ name unknown. refl), ((λ name unknown. refl), tt))
owns VoltageByVoltage = ((λ name unknown. refl), ((λ name unknown. refl), ((λ name unknown. refl), tt)))
owns CurrentByVoltage = ((λ name unknown. refl), ((λ name unknown. refl), ((λ name unknown. refl), tt)))
owns CurrentByCurrent = ((λ name unknown. refl), ((λ name unknown. refl), tt))
owns VoltageByCurrent = ((λ name unknown. refl), ((λ name unknown. refl), tt))
owns Opamp = ((λ name unknown. refl), tt)
owns Transformer = ((λ name unknown. refl), ((λ name unknown. refl), ((λ name unknown. refl), ((λ name unknown. refl), tt))))
owns Gyrator = ((λ name unknown. refl), ((λ name unknown. refl), ((λ name unknown. refl), ((λ name unknown. refl), tt))))

owns_current : (kind : DeviceKind) → OwnsCurrent (unknown_words kind)
owns_current Passive = ((λ name n. refl), ((λ name n. refl), tt))
owns_current Voltage = ((λ name n. refl), ((λ name n. refl), tt))
owns_current Current = ((λ name n. refl), ((λ name n. refl), tt))
owns_current VoltageByVoltage = ((λ name n. refl), ((λ name n. refl), ((λ name n. refl), tt)))
owns_current CurrentByVoltage = ((λ name n. refl), ((λ name n. refl), ((λ name n. refl), tt)))
owns_current CurrentByCurrent = ((λ name n. refl), ((λ name n. refl), tt))
owns_current VoltageByCurrent = ((λ name n. refl), ((λ name n. refl), tt))
owns_current Opamp = ((λ name n. refl), tt)
owns_current Transformer = ((λ name n. refl), ((λ name n. refl), ((λ name n. refl), ((λ name n. refl), tt))))
owns_current Gyrator = ((λ name n. refl), ((λ name n. refl), ((λ name n. refl), ((λ name n. refl), tt))))

word-owns : (words : List (List ℕ)) → Owns words → (word : List ℕ) → has_name words word ≡ true →
    (name unknown : List ℕ) → owner_of (dotted word name) unknown ≡ name
word-owns [] good word there name unknown = let g : ⊥ = cc in absurd g
word-owns (other ∷ words) good word there name unknown = by (bytes_eq word other) refl there (λ rest. word-owns words good.1 word rest name unknown)
  where
    by : (b : Bool) → bytes_eq word other ≡ b → (b || has_name words word) ≡ true →
        (has_name words word ≡ true → owner_of (dotted word name) unknown ≡ name) →
        owner_of (dotted word name) unknown ≡ name
    by true e there more = subst (λ w. owner_of (dotted w name) unknown ≡ name) (sym ((bytes_eq-Decides word other).0 e)) (good.0 name unknown)
    by false e there more = more there

word-owns_current : (words : List (List ℕ)) → OwnsCurrent words → (word : List ℕ) → has_name words word ≡ true →
    (name n : List ℕ) → owner_of (dotted (codes "kcl") n) (dotted word name) ≡ name
word-owns_current [] good word there name n = let g : ⊥ = cc in absurd g
word-owns_current (other ∷ words) good word there name n = by (bytes_eq word other) refl there (λ rest. word-owns_current words good.1 word rest name n)
  where
    by : (b : Bool) → bytes_eq word other ≡ b → (b || has_name words word) ≡ true →
        (has_name words word ≡ true → owner_of (dotted (codes "kcl") n) (dotted word name) ≡ name) →
        owner_of (dotted (codes "kcl") n) (dotted word name) ≡ name
    by true e there more = subst (λ w. owner_of (dotted (codes "kcl") n) (dotted w name) ≡ name) (sym ((bytes_eq-Decides word other).0 e)) (good.0 name n)
    by false e there more = more there

form-owned : (d : Device) (t : Term) → HasForm d t → owner_of t.equation t.unknown ≡ d.name
form-owned d t form = by form.place
  where
    by : Place d t → owner_of t.equation t.unknown ≡ d.name
    by (inl at) = ap (λ e. owner_of e t.unknown) at.equation ∙ word-owns (equation_words d.kind)
        (owns d.kind) at.equation_word at.equation_there d.name t.unknown
    by (inr (inl at)) = ap (λ e. owner_of e t.unknown) at.equation ∙ word-owns (equation_words d.kind)
        (owns d.kind) at.equation_word at.equation_there d.name t.unknown
    by (inr (inr (inl at))) = (λ k. owner_of (at.equation k) (at.unknown k))
        ∙ word-owns_current (unknown_words d.kind)
        (owns_current d.kind) at.unknown_word at.unknown_there d.name at.node
    by (inr (inr (inr at))) = ap (λ e. owner_of e t.unknown) at.equation

-- a term of another device stands elsewhere
elsewhere : (name equation unknown : List ℕ) (term : Term) → Owned name term →
    bytes_eq (owner_of equation unknown) name ≡ false → stands_at equation unknown term ≡ false
elsewhere name equation unknown term owned other = by (bytes_eq equation term.equation) refl (bytes_eq unknown term.unknown) refl
  where
    by : (a : Bool) → bytes_eq equation term.equation ≡ a → (b : Bool) → bytes_eq unknown term.unknown ≡ b → stands_at equation unknown term ≡ false
    by false p b q = rw p refl
    by true p false q = rw p (rw q refl)
    by true p true q =
        let same : equation ≡ term.equation = (bytes_eq-Decides equation term.equation).0 p in
        let same_unknown : unknown ≡ term.unknown = (bytes_eq-Decides unknown term.unknown).0 q in
        let owner : owner_of equation unknown ≡ name = ap (λ e. owner_of e unknown) same ∙ ap (owner_of term.equation) same_unknown ∙ owned in
        let both : true ≡ false = sym ((bytes_eq-Decides (owner_of equation unknown) name).1 owner) ∙ other in
        let g : ⊥ = cc in absurd g

silent : (name equation unknown : List ℕ) (terms : List Term) → AreOwned name terms →
    bytes_eq (owner_of equation unknown) name ≡ false → IsFree terms equation unknown
silent name equation unknown [] owned other = refl
silent name equation unknown (term ∷ terms) owned other = rw (elsewhere name equation unknown term owned.0 other)
    (silent name equation unknown terms owned.1 other)

-- devices leave a place free whose device is none of them
pub devices-free : (p : ℕ) (devices : List Device) (equation unknown : List ℕ) → has_name (device_names devices)
    (owner_of equation unknown) ≡ false → IsFree (terms_of p devices) equation unknown
devices-free p [] equation unknown other = refl
devices-free p (d ∷ devices) equation unknown other = by (bytes_eq (owner_of equation unknown) d.name) refl other (devices-free p devices equation unknown)
  where
    by : (b : Bool) → bytes_eq (owner_of equation unknown) d.name ≡ b →
        (b || has_name (device_names devices) (owner_of equation unknown)) ≡ false →
        (has_name (device_names devices) (owner_of equation unknown) ≡ false →
        IsFree (terms_of p devices) equation unknown) → IsFree (terms_of p (d ∷ devices)) equation unknown
    by true e none more = let g : ⊥ = cc in absurd g
    by false e none more =
        ap (list_any (stands_at equation unknown)) (flat_map-cons (λ (device : Device). terms_by p device.kind device) d devices)
        ∙ list_any-append (stands_at equation unknown) (terms_by p d.kind d) (terms_of p devices)
        ∙ (λ k. silent d.name equation unknown (terms_by p d.kind d) (device-owned p d d.kind) e k || more none k)

-- and so where the terms of a new device are to stand
pub new-free : (p : ℕ) (earlier : List Device) (d : Device) (terms : List Term) →
    has_name (device_names earlier) d.name ≡ false → AllByRecursion (HasForm d) terms →
    AllByRecursion (λ t. IsFree (terms_of p earlier) t.equation t.unknown) terms
new-free p earlier d [] new forms = tt
new-free p earlier d (t ∷ terms) new forms =
    (devices-free p earlier t.equation t.unknown (ap (has_name (device_names earlier)) (form-owned d t forms.0) ∙ new), new-free p earlier d terms new forms.1)
