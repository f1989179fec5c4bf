-- The names that the numbers of a circuit stand for.
use Rattle.std.proofs.Common.{◌≡◌, ℕ, ◌+◌, ◌-◌, append_assoc, ◌<◌, ◌≤◌, All, Bool, true, false, cond, not, List, [], ◌∷◌, ◌++◌}
use Rattle.std.proofs.Common.{map, filter, codes, length, take, get_or, position, nat_eq, Option, Some, None, refl, sym, ap, subst, ◌∙◌}
use Rattle.std.proofs.Common.{arith, ltb, ltb-true, ltb-false}
use Rattle.std.specs.Prelude.{IsTrue}
use Rattle.std.specs.List.{AllByRecursion, flat_map}
use Rattle.std.specs.Str.{bytes_eq}
use Rattle.std.proofs.lemmas.List.{get_or-append-add, get_or-map, get_or_append_left, get_or_default, get_or_past, get_or_push}
use Rattle.std.proofs.lemmas.List.{length-append, length-map, take_more}
use Rattle.std.proofs.lemmas.List.Concat.{get_or-flat_map}
use Rattle.std.proofs.lemmas.List.Folds.{length-flat_map-take}
use Rattle.std.proofs.lemmas.Bool.{eqb-false, eqb-true}
use Rattle.std.proofs.lemmas.Slice.Eq.{bytes_eq-Decides}
use Rattle.mixed_model.specs.Names.{IsNameList, has_name, is_label, name_at}
use Rattle.mixed_model.proofs.NameLaws.{has_name-None, has_name-Some, names_apart}
use Rattle.term_model.specs.Putting.{IsPlaced}
use Rattle.term_model.specs.Terms.{Term, constant, dotted}
use Rattle.term_model.proofs.Lists.{all-see, all_at, differ-distinct}
use Rattle.netlist_devices.specs.declared.kind.DeviceKind.{DeviceKind}
use Rattle.netlist_devices.specs.declared.kind.DeviceKind.TheVariants.{Passive, Voltage, Current, VoltageByVoltage}
use Rattle.netlist_devices.specs.declared.kind.DeviceKind.TheVariants.{CurrentByVoltage, CurrentByCurrent}
use Rattle.netlist_devices.specs.declared.kind.DeviceKind.TheVariants.{VoltageByCurrent, Opamp, Transformer, Gyrator}
use Rattle.netlist_devices.specs.Devices.{Device, ground, has_source, is_ground, nodes_of, nodes_wanted}
use Rattle.netlist_devices.specs.Circuits.{CircuitParts, IsCircuit}
use Rattle.netlist_devices.specs.EquationNames.{equation_words, own_names, unknown_words, unknowns_of}
use Rattle.netlist_devices.specs.Rules.{is_source, is_voltage}
use Rattle.netlist_devices.proofs.CircuitSteps.{own_names-push}
use Rattle.netlist_devices.proofs.SourceLaws.{source_found}
use Rattle.netlist_reader.specs.Naming.{own_words}
use Rattle.netlist_reader.specs.Numbers.{AreFirsts, DevicePlaces, HasDevicePlaces, IsNode, IsSeen, Numbered, NumberedTerm, NumbersNodes, StandsWithin}
use Rattle.netlist_reader.specs.Numbers.{name_term, name_terms, node_named, numbered_of, put_at}
use Rattle.netlist_reader.specs.Putting.{put_among, put_between, put_by, put_difference, put_flow, put_laws, put_symbols, put_voltage}
use Rattle.netlist_reader.specs.Terms.{node, node_current, node_voltage, own}
use Rattle.netlist_reader.specs.declared.side.Side.{Side}
use Rattle.netlist_reader.specs.declared.side.Side.TheVariants.{Unknowns, Equations}
use Rattle.netlist_reader.proofs.NameLists.{nodes-distinct}

-- terms by their names, one by one
pub terms_named : (names : Numbered) (terms : List NumberedTerm) → name_terms names terms ≡ map (name_term names.equations names.unknowns) terms
unfolding name_terms
terms_named names terms = refl

-- a node's name behind a word has the node's number
pub at_node : (word : List ℕ) (nodes own : List (List ℕ)) (k : ℕ) → k < length nodes →
    name_at (map (dotted word) nodes ++ own) k ≡ dotted word (name_at nodes k)
at_node word nodes own k within =
    get_or_append_left (map (dotted word) nodes) own [] k (omega (arith, within, length-map nodes (dotted word)))
    ∙ get_or-map (dotted word) nodes k [] [] within

-- and a device's own name that of its word behind the first
pub at_own : (word : List ℕ) (words : DeviceKind → List (List ℕ)) (nodes : List (List ℕ)) (devices : List Device) (k w : ℕ) (d : Device) →
    k < length devices → d ≡ get_or devices k d → w < length (words d.kind) →
    name_at (map (dotted word) nodes ++ own_names words devices)
    (length nodes + length (own_names words (take k devices)) + w) ≡ own d (name_at (words d.kind) w)
at_own word words nodes devices k w d within is there =
    let first = map (dotted word) nodes in
    let before = length (own_names words (take k devices)) in
    let names : Device → List (List ℕ) = λ device. map (λ word. dotted word device.name) (words device.kind) in
    let long : w < length (names d) = omega (arith, there, length-map (words d.kind) (λ word. dotted word d.name)) in
    let count : length nodes + before + w ≡ length first + (before + w) = omega (arith, length-map nodes (dotted word)) in
    ap (name_at (first ++ own_names words devices)) count
    ∙ get_or-append-add first (own_names words devices) (before + w) []
    ∙ get_or-flat_map names devices k w d [] within (subst (λ (device : Device). w < length (names device)) is long)
    ∙ ap (λ (device : Device). get_or (names device) w []) (sym is)
    ∙ get_or-map (λ word. dotted word d.name) (words d.kind) w [] [] there

-- the own names of the first devices, and of one more, are among all
pub few_before : (words : DeviceKind → List (List ℕ)) (devices : List Device) (k : ℕ) (d : Device) → k < length devices →
    d ≡ get_or devices k d → length (own_names words (take k devices)) + length (words d.kind) ≤ length (own_names words devices)
few_before words devices k d within is =
    let names : Device → List (List ℕ) = λ device. map (λ word. dotted word device.name) (words device.kind) in
    omega (
      arith,
      length-flat_map-take names devices k d within,
      ap (λ (device : Device). length (names device)) is,
      length-map (words d.kind) (λ word. dotted word d.name),
    )

-- all names on a side are few
pub few_on : (p : ℕ) (parts : CircuitParts) → IsCircuit p parts → (side : Side) →
    length (nodes_of parts.devices) + length (own_names (own_words side) parts.devices) ≤ 4096
few_on p parts circuit Unknowns = omega (
  arith,
  length-append (map (dotted (codes "u")) (nodes_of parts.devices)) (own_names unknown_words parts.devices),
  length-map (nodes_of parts.devices) (dotted (codes "u")),
  circuit.few_unknowns,
)
few_on p parts circuit Equations = omega (
  arith,
  length-append (map (dotted (codes "kcl")) (nodes_of parts.devices)) (own_names equation_words parts.devices),
  length-map (nodes_of parts.devices) (dotted (codes "kcl")),
  circuit.few_equations,
)

-- none of the nodes is the ground
others : (names : List (List ℕ)) → AllByRecursion (λ name. is_ground name ≡ false) (filter (λ node. not (is_ground node)) names)
others [] = tt
others (name ∷ names) = by (is_ground name) refl (others names)
  where
    by : (b : Bool) → is_ground name ≡ b → AllByRecursion (λ name. is_ground name ≡ false) (filter (λ node. not (is_ground node)) names) →
        AllByRecursion (λ name. is_ground name ≡ false)
        (cond (not b) (name ∷ filter (λ node. not (is_ground node)) names) (filter (λ node. not (is_ground node)) names))
    by true e rest = rest
    by false e rest = (e, rest)

all_above : (devices : List Device) → All (λ name. is_ground name ≡ false) (nodes_of devices)
all_above devices =
    let nodes = flat_map (λ (device : Device). device.nodes) devices in
    all_at (λ name. is_ground name ≡ false) (nodes_of devices)
    (all-see (λ name. is_ground name ≡ false) [] (filter (λ node. not (is_ground node)) nodes) tt (others nodes))

-- so the nodes of devices have numbers
pub numbers_nodes : (devices : List Device) → NumbersNodes (numbered_of devices)
numbers_nodes devices = record {
  distinct = differ-distinct (nodes_of devices) (nodes-distinct devices);
  above = λ k within. all_above devices k [] within;
  equations = λ k within. at_node (codes "kcl") (nodes_of devices) (own_names equation_words devices) k within;
  unknowns = λ k within. at_node (codes "u") (nodes_of devices) (own_names unknown_words devices) k within;
}

-- nodes are one where their names are
pub nodes_one : (names : Numbered) → NumbersNodes names → (i j : ℕ) → i < length names.nodes → j < length names.nodes →
    nat_eq i j ≡ bytes_eq (name_at names.nodes i) (name_at names.nodes j)
nodes_one names numbers i j first second = by (nat_eq i j) refl
  where
    by : (b : Bool) → nat_eq i j ≡ b → b ≡ bytes_eq (name_at names.nodes i) (name_at names.nodes j)
    by true e = sym ((bytes_eq-Decides (name_at names.nodes i) (name_at names.nodes j)).1 (ap (name_at names.nodes) (eqb-true i j e)))
    by false e = sym (names_apart names.nodes i j numbers.distinct (eqb-false i j e) first second)

-- what stands at a node's number
pub voltage_there : (names : Numbered) → NumbersNodes names → (k : ℕ) → k < length names.nodes → (equation : List ℕ) (n : ℕ) →
    constant equation (name_at names.unknowns k) n ∷ [] ≡ node_voltage equation n (name_at names.nodes k)
voltage_there names numbers k within equation n =
    ap (λ unknown. constant equation unknown n ∷ []) (numbers.unknowns k within)
    ∙ ap (λ b. cond b [] (constant equation (dotted (codes "u") (name_at names.nodes k)) n ∷ [])) (sym (numbers.above k within))

pub current_there : (names : Numbered) → NumbersNodes names → (k : ℕ) → k < length names.nodes → (current : List ℕ) (n : ℕ) →
    constant (name_at names.equations k) current n ∷ [] ≡ node_current current n (name_at names.nodes k)
current_there names numbers k within current n =
    ap (λ equation. constant equation current n ∷ []) (numbers.equations k within)
    ∙ ap (λ b. cond b [] (constant (dotted (codes "kcl") (name_at names.nodes k)) current n ∷ [])) (sym (numbers.above k within))

-- a difference between two nodes, and a flow, put down node by node
pub difference_put : (p : ℕ) (old mid new : List Term) (equation plus minus : List ℕ) (one less : ℕ) → false ≡ bytes_eq plus minus →
    one ≡ 1 → less ≡ p - 1 → mid ≡ old ++ node_voltage equation one plus → new ≡ mid ++ node_voltage equation less minus →
    new ≡ old ++ put_difference p equation plus minus
difference_put p old mid new equation plus minus one less apart is_one is_less first second =
    second
    ∙ ap (λ front. front ++ node_voltage equation less minus) first
    ∙ append_assoc old (node_voltage equation one plus) (node_voltage equation less minus)
    ∙ (λ k. old ++ cond (apart k) [] (node_voltage equation (is_one k) plus ++ node_voltage equation (is_less k) minus))

pub flow_put : (p : ℕ) (old mid new : List Term) (current plus minus : List ℕ) (one less : ℕ) → false ≡ bytes_eq plus minus →
    one ≡ 1 → less ≡ p - 1 → mid ≡ old ++ node_current current one plus → new ≡ mid ++ node_current current less minus →
    new ≡ old ++ put_flow p current plus minus
flow_put p old mid new current plus minus one less apart is_one is_less first second =
    second
    ∙ ap (λ front. front ++ node_current current less minus) first
    ∙ append_assoc old (node_current current one plus) (node_current current less minus)
    ∙ (λ k. old ++ cond (apart k) [] (node_current current (is_one k) plus ++ node_current current (is_less k) minus))

-- by the number under which a node was found
pub named_found : (nodes : List (List ℕ)) (node : List ℕ) (found : Option ℕ) → IsSeen nodes node → position (bytes_eq node) nodes ≡ found →
    (node_named nodes found ≡ node) × IsNode nodes found
named_found nodes node (Some k) seen is = let there = has_name-Some nodes node k is in (there.1, there.0)
named_found nodes node None seen is = by (is_ground node) refl seen
  where
    by : (b : Bool) → is_ground node ≡ b → (b ≡ false → has_name nodes node ≡ true) → (ground ≡ node) × IsNode nodes None
    by true e some = (sym ((bytes_eq-Decides node ground).0 e), tt)
    by false e some =
        let both : true ≡ false = sym (some refl) ∙ has_name-None nodes node is in
        let f : ⊥ = cc in absurd f

-- what is put at the same names is the same
same-among : (p : ℕ) (kind : DeviceKind) (e f u v n m : ℕ → List ℕ) (s t : List ℕ) (number : ℕ) →
    ((w : ℕ) → w < length (equation_words kind) → e w ≡ f w) → ((w : ℕ) → w < length (unknown_words kind) → u w ≡ v w) →
    ((w : ℕ) → w < nodes_wanted kind → n w ≡ m w) → (has_source kind ≡ true → s ≡ t) →
    put_among p kind e u n s number ≡ put_among p kind f v m t number
same-among p Passive e f u v n m s t number ee uu nn ss =
    let e0 = ee 0 (omega arith) in
    let e1 = ee 1 (omega arith) in
    let u0 = uu 0 (omega arith) in
    let u1 = uu 1 (omega arith) in
    let n0 = nn 0 (omega arith) in
    let n1 = nn 1 (omega arith) in
    λ i. put_between p (e0 i) (u0 i) (u1 i) (n0 i) (n1 i) ++ put_symbols (e1 i) (u0 i) (u1 i)
same-among p Voltage e f u v n m s t number ee uu nn ss =
    let e0 = ee 0 (omega arith) in
    let e1 = ee 1 (omega arith) in
    let u0 = uu 0 (omega arith) in
    let u1 = uu 1 (omega arith) in
    let n0 = nn 0 (omega arith) in
    let n1 = nn 1 (omega arith) in
    λ i. put_between p (e0 i) (u0 i) (u1 i) (n0 i) (n1 i) ++ constant (e1 i) (u0 i) 1 ∷ []
same-among p Current e f u v n m s t number ee uu nn ss =
    let e0 = ee 0 (omega arith) in
    let e1 = ee 1 (omega arith) in
    let u0 = uu 0 (omega arith) in
    let u1 = uu 1 (omega arith) in
    let n0 = nn 0 (omega arith) in
    let n1 = nn 1 (omega arith) in
    λ i. put_between p (e0 i) (u0 i) (u1 i) (n0 i) (n1 i) ++ constant (e1 i) (u1 i) 1 ∷ []
same-among p VoltageByVoltage e f u v n m s t number ee uu nn ss =
    let e0 = ee 0 (omega arith) in
    let e1 = ee 1 (omega arith) in
    let e2 = ee 2 (omega arith) in
    let u0 = uu 0 (omega arith) in
    let u1 = uu 1 (omega arith) in
    let u2 = uu 2 (omega arith) in
    let n0 = nn 0 (omega arith) in
    let n1 = nn 1 (omega arith) in
    let n2 = nn 2 (omega arith) in
    let n3 = nn 3 (omega arith) in
    λ i. put_between p (e0 i) (u0 i) (u1 i) (n0 i) (n1 i) ++ put_voltage p (e1 i) (u2 i) (n2 i) (n3 i) ++ put_symbols (e2 i) (u0 i) (u2 i)
same-among p CurrentByVoltage e f u v n m s t number ee uu nn ss =
    let e0 = ee 0 (omega arith) in
    let e1 = ee 1 (omega arith) in
    let e2 = ee 2 (omega arith) in
    let u0 = uu 0 (omega arith) in
    let u1 = uu 1 (omega arith) in
    let u2 = uu 2 (omega arith) in
    let n0 = nn 0 (omega arith) in
    let n1 = nn 1 (omega arith) in
    let n2 = nn 2 (omega arith) in
    let n3 = nn 3 (omega arith) in
    λ i. put_between p (e0 i) (u0 i) (u1 i) (n0 i) (n1 i) ++ put_voltage p (e1 i) (u2 i) (n2 i) (n3 i) ++ put_symbols (e2 i) (u1 i) (u2 i)
same-among p CurrentByCurrent e f u v n m s t number ee uu nn ss =
    let e0 = ee 0 (omega arith) in
    let e1 = ee 1 (omega arith) in
    let u0 = uu 0 (omega arith) in
    let u1 = uu 1 (omega arith) in
    let n0 = nn 0 (omega arith) in
    let n1 = nn 1 (omega arith) in
    let source = ss refl in
    λ i. put_between p (e0 i) (u0 i) (u1 i) (n0 i) (n1 i) ++ put_symbols (e1 i) (u1 i) (source i)
same-among p VoltageByCurrent e f u v n m s t number ee uu nn ss =
    let e0 = ee 0 (omega arith) in
    let e1 = ee 1 (omega arith) in
    let u0 = uu 0 (omega arith) in
    let u1 = uu 1 (omega arith) in
    let n0 = nn 0 (omega arith) in
    let n1 = nn 1 (omega arith) in
    let source = ss refl in
    λ i. put_between p (e0 i) (u0 i) (u1 i) (n0 i) (n1 i) ++ put_symbols (e1 i) (u0 i) (source i)
same-among p Opamp e f u v n m s t number ee uu nn ss =
    let e0 = ee 0 (omega arith) in
    let u0 = uu 0 (omega arith) in
    let n0 = nn 0 (omega arith) in
    let n1 = nn 1 (omega arith) in
    let n2 = nn 2 (omega arith) in
    λ i. put_flow p (u0 i) (n2 i) ground ++ put_difference p (e0 i) (n0 i) (n1 i)
same-among p Transformer e f u v n m s t number ee uu nn ss =
    let e0 = ee 0 (omega arith) in
    let e1 = ee 1 (omega arith) in
    let e2 = ee 2 (omega arith) in
    let e3 = ee 3 (omega arith) in
    let u0 = uu 0 (omega arith) in
    let u1 = uu 1 (omega arith) in
    let u2 = uu 2 (omega arith) in
    let u3 = uu 3 (omega arith) in
    let n0 = nn 0 (omega arith) in
    let n1 = nn 1 (omega arith) in
    let n2 = nn 2 (omega arith) in
    let n3 = nn 3 (omega arith) in
    λ i. put_between p (e0 i) (u0 i) (u1 i) (n0 i) (n1 i) ++ put_between p (e1 i) (u2 i) (u3 i) (n2 i) (n3 i)
    ++ put_laws p (e2 i) (e3 i) (u0 i) (u2 i) (u1 i) (u3 i) number
same-among p Gyrator e f u v n m s t number ee uu nn ss =
    let e0 = ee 0 (omega arith) in
    let e1 = ee 1 (omega arith) in
    let e2 = ee 2 (omega arith) in
    let e3 = ee 3 (omega arith) in
    let u0 = uu 0 (omega arith) in
    let u1 = uu 1 (omega arith) in
    let u2 = uu 2 (omega arith) in
    let u3 = uu 3 (omega arith) in
    let n0 = nn 0 (omega arith) in
    let n1 = nn 1 (omega arith) in
    let n2 = nn 2 (omega arith) in
    let n3 = nn 3 (omega arith) in
    λ i. put_between p (e0 i) (u0 i) (u1 i) (n0 i) (n1 i) ++ put_between p (e1 i) (u2 i) (u3 i) (n2 i) (n3 i)
    ++ put_laws p (e2 i) (e3 i) (u0 i) (u3 i) (u1 i) (u2 i) number

-- what is put at the places of a device is what is put of the device
pub put_there : (p : ℕ) (names : Numbered) (d : Device) (places : DevicePlaces) → HasDevicePlaces names d places →
    length d.nodes ≡ nodes_wanted d.kind → put_at p d.kind names places d.number ≡ put_by p d.kind d
put_there p names d places has wanted =
    let count : length places.nodes ≡ nodes_wanted d.kind =
    sym (length-map places.nodes (node_named names.nodes)) ∙ ap length has.nodes ∙ wanted in
    same-among p d.kind (λ w. name_at names.equations (places.equations + w)) (λ w. own d (name_at (equation_words d.kind) w))
    (λ w. name_at names.unknowns (places.unknowns + w)) (λ w. own d (name_at (unknown_words d.kind) w))
    (λ k. node_named names.nodes (get_or places.nodes k None)) (node d)
    (name_at names.unknowns places.source) (dotted (codes "i") d.source) d.number
    has.equations has.unknowns
    (λ k within. sym (get_or-map (node_named names.nodes) places.nodes k None [] (omega (arith, count, within)))
    ∙ ap (λ nodes. get_or nodes k []) has.nodes)
    has.source

-- a number whose name is there is within
none_empty : (names : List (List ℕ)) → IsNameList names → has_name names [] ≡ false
none_empty names is = by (position (bytes_eq []) names) refl
  where
    by : (found : Option ℕ) → position (bytes_eq []) names ≡ found → has_name names [] ≡ false
    by None e = has_name-None names [] e
    by (Some k) e =
        let there = has_name-Some names [] k e in
        let label : IsTrue (is_label []) = subst (λ name. IsTrue (is_label name)) there.1 (is.labels k [] there.0) in
        let f : ⊥ = cc in absurd f

pub within_named : (names : List (List ℕ)) (k : ℕ) → IsNameList names → has_name names (name_at names k) ≡ true → k < length names
within_named names k is there = by (ltb k (length names)) refl
  where
    by : (b : Bool) → ltb k (length names) ≡ b → k < length names
    by true e = ltb-true k (length names) e
    by false e =
        let past : name_at names k ≡ [] = get_or_past names k [] (ltb-false k (length names) e) in
        let both : true ≡ false = sym there ∙ ap (has_name names) past ∙ none_empty names is in
        let f : ⊥ = cc in absurd f

-- so terms whose names are there are within
pub all_within : (equations unknowns : List (List ℕ)) → IsNameList equations → IsNameList unknowns → (terms : List NumberedTerm) →
    All (IsPlaced equations unknowns) (map (name_term equations unknowns) terms) → All (StandsWithin equations unknowns) terms
all_within equations unknowns first second terms placed i d within =
    let name = name_term equations unknowns in
    let here : IsPlaced equations unknowns (name (get_or terms i d)) =
    subst (IsPlaced equations unknowns) (get_or-map name terms i d (name d) within)
    (placed i (name d) (omega (arith, within, length-map terms name))) in
    record {
      equation = within_named equations (get_or terms i d).equation first here.equation;
      unknown = within_named unknowns (get_or terms i d).unknown second here.unknown;
    }

-- the first own name of one device more
abbrev pub first_at : (DeviceKind → List (List ℕ)) → List Device → ℕ → ℕ
first_at words devices k = length (nodes_of devices) + length (own_names words (take k devices))

pub next_first : (words : DeviceKind → List (List ℕ)) (devices : List Device) (i : ℕ) (d : Device) → i < length devices →
    d ≡ get_or devices i d → first_at words devices (i + 1) ≡ first_at words devices i + length (words d.kind)
next_first words devices i d within is =
    omega (
      arith,
      ap (λ front. length (own_names words front)) (take_more devices i d within),
      own_names-push words (take i devices) (get_or devices i d),
      ap (λ (device : Device). length (words device.kind)) is,
    )

pub firsts_more : (words : DeviceKind → List (List ℕ)) (devices : List Device) (firsts : List ℕ) (next i : ℕ) → length firsts ≡ i →
    ((k : ℕ) → k < i → get_or firsts k 0 ≡ first_at words devices k) → next ≡ first_at words devices i →
    (k : ℕ) → k < i + 1 → get_or (firsts ++ next ∷ []) k 0 ≡ first_at words devices k
firsts_more words devices firsts next i long before is k within = by (ltb k i) refl
  where
    by : (b : Bool) → ltb k i ≡ b → get_or (firsts ++ next ∷ []) k 0 ≡ first_at words devices k
    by true e =
        let less = ltb-true k i e in
        get_or_append_left firsts (next ∷ []) 0 k (omega (arith, less, long)) ∙ before k less
    by false e =
        let more = ltb-false k i e in
        let last : k ≡ i = omega (arith, more, within) in
        get_or_push firsts next 0 k (omega (arith, last, long)) ∙ is ∙ ap (first_at words devices) (sym last)

-- a V device has a current
voltage_word : (kind : DeviceKind) → is_voltage kind ≡ true →
    (1 < length (unknown_words kind)) × (name_at (unknown_words kind) 1 ≡ codes "i")
voltage_word Voltage is = (omega arith, refl)
voltage_word Passive is = let g : ⊥ = cc in absurd g
voltage_word Current is = let g : ⊥ = cc in absurd g
voltage_word VoltageByVoltage is = let g : ⊥ = cc in absurd g
voltage_word CurrentByVoltage is = let g : ⊥ = cc in absurd g
voltage_word CurrentByCurrent is = let g : ⊥ = cc in absurd g
voltage_word VoltageByCurrent is = let g : ⊥ = cc in absurd g
voltage_word Opamp is = let g : ⊥ = cc in absurd g
voltage_word Transformer is = let g : ⊥ = cc in absurd g
voltage_word Gyrator is = let g : ⊥ = cc in absurd g

-- the device of a name that was found
no_device : Device
no_device = record { kind = Voltage; name = []; nodes = []; source = []; number = 0 }

module _ (p : ℕ) (parts : CircuitParts) (circuit : IsCircuit p parts) (firsts : List ℕ) (are : AreFirsts unknown_words parts.devices firsts)
    (name : List ℕ) (k : ℕ) (found : position (bytes_eq name) parts.names ≡ Some k) where
  pub found_within : k < length firsts
  found_within = omega (
    arith,
    (has_name-Some parts.names name k found).0,
    ap length circuit.names,
    length-map parts.devices (λ (device : Device). device.name),
    are.each,
  )

  pub found_few : get_or firsts k 0 ≤ 4096
  found_few =
      let within : k < length parts.devices = omega (arith, found_within, are.each) in
      omega (
        arith,
        are.number k within,
        few_before unknown_words parts.devices k (get_or parts.devices k no_device) within (get_or_default parts.devices k no_device
            (get_or parts.devices k no_device) within),
        length-append (map (dotted (codes "u")) (nodes_of parts.devices)) (own_names unknown_words parts.devices),
        length-map (nodes_of parts.devices) (dotted (codes "u")),
        circuit.few_unknowns,
      )

  -- its current, where it is a V device
  pub source_at : is_source parts.devices name ≡ true → name_at (unknowns_of parts.devices) (get_or firsts k 0 + 1) ≡ dotted (codes "i") name
  source_at source =
      let d = get_or parts.devices k no_device in
      let here = source_found parts.devices parts.names name k no_device circuit.distinct circuit.names found in
      let is : d ≡ get_or parts.devices k d = get_or_default parts.devices k no_device d here.0 in
      let word = voltage_word d.kind (here.1 ∙ source) in
      let named : d.name ≡ name = sym (get_or-map (λ (device : Device). device.name) parts.devices k no_device [] here.0)
      ∙ ap (λ names. get_or names k []) (sym circuit.names) ∙ (has_name-Some parts.names name k found).1 in
      ap (λ n. name_at (unknowns_of parts.devices) (n + 1)) (are.number k here.0)
      ∙ at_own (codes "u") unknown_words (nodes_of parts.devices) parts.devices k 1 d here.0 is word.0
      ∙ (λ i. dotted (word.1 i) (named i))
