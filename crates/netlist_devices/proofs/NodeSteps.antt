-- Nodes that are put last one by one.
use Rattle.std.proofs.Common.{◌≡◌, ℕ, ◌+◌, ◌<◌, ◌≤◌, Bool, true, false, List, [], ◌∷◌, ◌++◌, length, take, drop}
use Rattle.std.proofs.Common.{get_or, position, Option, Some, None, Ok, Err, refl, sym, ap, ◌∙◌, arith, length-append}
use Rattle.std.proofs.Common.{cond, ltb, ltb-false, not}
use Rattle.std.specs.List.{filter, flat_map, fold}
use Rattle.std.specs.Str.{bytes_eq}
use Rattle.std.proofs.lemmas.List.{append-nil, take-append-drop, take_more}
use Rattle.std.proofs.lemmas.List.Elements.{filter-append}
use Rattle.std.proofs.lemmas.Grind.{flat_map-append}
use Rattle.std.proofs.lemmas.List.Sums.{fold-append}
use Rattle.refusals.specs.declared.Why.TheVariants.{TooMany as IsFull}
use Rattle.mixed_model.specs.Names.{AnswersAdd, has_name, place_or_end, see, seeing}
use Rattle.mixed_model.specs.declared.errors.AddError.{AddError}
use Rattle.mixed_model.specs.declared.errors.AddError.TheVariants.{Twice, TooMany, NoMemory}
use Rattle.mixed_model.proofs.NameLaws.{has_name-None, see-new}
use Rattle.refusals.specs.Faults.{OnBroken}
use Rattle.netlist_devices.specs.Devices.{Device, is_ground, nodes_of}
use Rattle.mixed_model.specs.Faults.{fault_of}
use Rattle.netlist_devices.specs.ReaderStates.{see_node, see_nodes}

-- a node that is not the ground is seen
pub see_node-other : (seen : List (List ℕ)) (node : List ℕ) → is_ground node ≡ false → see_node seen node ≡ see seen node
see_node-other seen node other = rw other refl

-- seeing takes away nothing
see-longer : (seen : List (List ℕ)) (node : List ℕ) → length seen ≤ length (see seen node)
see-longer seen node = by (has_name seen node)
  where
    by : (b : Bool) → length seen ≤ length (cond b seen (seen ++ node ∷ []))
    by true = omega arith
    by false = omega (arith, length-append seen (node ∷ []))

see_node-longer : (seen : List (List ℕ)) (node : List ℕ) → length seen ≤ length (see_node seen node)
see_node-longer seen node = by (is_ground node)
  where
    by : (b : Bool) → length seen ≤ length (cond b seen (see seen node))
    by true = omega arith
    by false = see-longer seen node

see_nodes-longer : (seen nodes : List (List ℕ)) → length seen ≤ length (see_nodes seen nodes)
see_nodes-longer seen [] = omega arith
see_nodes-longer seen (node ∷ nodes) = omega (arith, see_node-longer seen node, see_nodes-longer (see_node seen node) nodes)

-- one node more is seen
pub see_more : (seen nodes : List (List ℕ)) (i : ℕ) → i < length nodes →
    see_nodes seen (take (i + 1) nodes) ≡ see_node (see_nodes seen (take i nodes)) (get_or nodes i [])
see_more seen nodes i at =
    ap (see_nodes seen) (take_more nodes i [] at) ∙ fold-append see_node seen (take i nodes) (get_or nodes i [] ∷ [])

-- all nodes are no fewer than the first ones
pub see_all : (seen nodes : List (List ℕ)) (i : ℕ) → length (see_nodes seen (take i nodes)) ≤ length (see_nodes seen nodes)
see_all seen nodes i =
    let whole : see_nodes (see_nodes seen (take i nodes)) (drop i nodes) ≡ see_nodes seen nodes =
    sym (fold-append see_node seen (take i nodes) (drop i nodes))
    ∙ ap (see_nodes seen) (take-append-drop i nodes) in
    omega (arith, see_nodes-longer (see_nodes seen (take i nodes)) (drop i nodes), ap length whole)

-- a node that can't be seen is one too many
pub node_fault : (seen : List (List ℕ)) (node : List ℕ) (error : AddError) → is_ground node ≡ false →
    AnswersAdd {T = ℕ} (Err error) (seeing seen node) → OnBroken (fault_of error) (λ why. (why ≡ IsFull)
    × (4096 < length (see_node seen node)))
node_fault seen node NoMemory other answer = tt
node_fault seen node Twice other answer = absurd (by (position (bytes_eq node) seen) answer)
  where
    last : (b : Bool) → cond b (Ok (length seen)) (Err TooMany) ≡ Err Twice → ⊥
    last true e = cc
    last false e = cc

    by : (o : Option ℕ) → place_or_end seen o ≡ Err Twice → ⊥
    by (Some k) e = cc
    by None e = last (ltb (length seen) 4096) e
node_fault seen node TooMany other answer = by (position (bytes_eq node) seen) refl answer
  where
    last : (b : Bool) → ltb (length seen) 4096 ≡ b → cond b (Ok (length seen)) (Err TooMany) ≡ Err TooMany →
        has_name seen node ≡ false → (IsFull ≡ IsFull) × (4096 < length (see_node seen node))
    last true e answer new = absurd cc
    last false e answer new =
        let full = ltb-false (length seen) 4096 e in
        let longer = ap length (see_node-other seen node other ∙ see-new seen node new) ∙ length-append seen (node ∷ []) in
        (refl, omega (arith, full, longer))

    by : (o : Option ℕ) → position (bytes_eq node) seen ≡ o → place_or_end seen o ≡ Err TooMany → (IsFull ≡ IsFull) × (4096 < length (see_node seen node))
    by (Some k) e answer = absurd cc
    by None e answer = last (ltb (length seen) 4096) refl answer (has_name-None seen node e)

-- the nodes of one more device are seen after those before
seen_others : (seen nodes : List (List ℕ)) → fold see seen (filter (λ node. not (is_ground node)) nodes) ≡ see_nodes seen nodes
seen_others seen [] = refl
seen_others seen (node ∷ nodes) = by (is_ground node) (λ more. seen_others more nodes)
  where
    by : (b : Bool) → ((more : List (List ℕ)) → fold see more (filter (λ node. not (is_ground node)) nodes) ≡ see_nodes more nodes)
        → fold see seen (cond (not b) (node ∷ filter (λ node. not (is_ground node)) nodes)
        (filter (λ node. not (is_ground node)) nodes)) ≡ see_nodes (cond b seen (see seen node)) nodes
    by true rest = rest seen
    by false rest = rest (see seen node)

pub nodes_of-push : (devices : List Device) (device : Device) → nodes_of (devices ++ device ∷ []) ≡ see_nodes (nodes_of devices) device.nodes
nodes_of-push devices device =
    let all = flat_map (λ (d : Device). d.nodes) devices in
    ap (λ nodes. fold see [] (filter (λ node. not (is_ground node)) nodes))
    (flat_map-append (λ (d : Device). d.nodes) devices (device ∷ [])
    ∙ ap (λ more. all ++ more) (append-nil device.nodes))
    ∙ ap (fold see []) (filter-append (λ node. not (is_ground node)) all device.nodes)
    ∙ fold-append see [] (filter (λ node. not (is_ground node)) all) (filter (λ node. not (is_ground node)) device.nodes)
    ∙ seen_others (nodes_of devices) device.nodes
