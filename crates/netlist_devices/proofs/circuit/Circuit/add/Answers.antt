use Rattle.std.proofs.Common.{◌≡◌, false, [], ◌∷◌, ◌++◌, map, sym, ap, ◌∙◌}
use Rattle.std.specs.String.{string_bytes}
use Rattle.std.proofs.lemmas.Result.{err_from_is_err_and}
use Rattle.mixed_model.specs.Names.{has_name}
use Rattle.netlist_devices.specs.Devices.{Device}
use Rattle.netlist_devices.specs.Rules.{place_rule}
use Rattle.netlist_devices.specs.Circuits.{CircuitParts}
use Rattle.netlist_devices.specs.ReaderStates.{PutsLast, see_nodes}
use Rattle.line_reader.proofs.Faults.{fault_answers}
use Rattle.netlist_devices.proofs.CircuitSteps.{name-fault, nodes-fault, room-fault, counted, counted-kept}
use Rattle.netlist_devices.proofs.circuit.Circuit.add.Goals as goal

pub returns-in_err-add_name-clause-added : goal.returns-in_err-add_name-clause-added
returns-in_err-add_name-clause-added g c =
    let failed = err_from_is_err_and c.from_residual.result c.from_residual.ensures.1 in
    let old = c.args.self.now in
    let device = c.args.device in
    let name : c.deref.result.now ≡ device.name = c.deref.ensures ∙ ap (λ (d : Device). d.name) c.device.view_is in
    rw failed.1
    (fault_answers (place_rule old.devices device)
    (PutsLast c.args.line old (record {
      devices = c.self.inside.devices.items;
      lines =
          c.self.inside.lines.items;
      names = c.add_name.new.names;
      nodes = c.self.inside.nodes;
      own_equations =
          c.self.inside.own_equations;
      own_unknowns = c.self.inside.own_unknowns;
    }) (device ∷ []))
    failed.0 c.in_err-add_name.field-0.0 failed.2
    (name-fault old.devices device c.self.inside.names c.add_name.new.names c.deref.result.now c.in_err-add_name.field-0.0
    (ap (λ (parts : CircuitParts). parts.names) c.self.view_is ∙ c.requires.circuit.names) name c.in_err-add_name.ensures))

pub returns-in_err-add_nodes-clause-added : goal.returns-in_err-add_nodes-clause-added
returns-in_err-add_nodes-clause-added g c =
    let failed = err_from_is_err_and c.from_residual-in_err-add_nodes.result c.from_residual-in_err-add_nodes.ensures.1 in
    let old = c.args.self.now in
    let device = c.args.device in
    let name : c.deref.result.now ≡ device.name = c.deref.ensures ∙ ap (λ (d : Device). d.name) c.device.view_is in
    let nodes : map string_bytes c.deref-2.result.now ≡ device.nodes = ap (map string_bytes) c.deref-2.ensures.value
    ∙ ap (λ (d : Device). d.nodes) c.device.view_is in
    let fresh : has_name old.names device.name ≡ false =
    (λ i. has_name (sym (ap (λ (parts : CircuitParts). parts.names) c.self.view_is) i) (sym name i))
    ∙ c.in_ok-add_name.ensures.0 in
    rw failed.1
    (fault_answers (place_rule old.devices device)
    (PutsLast c.args.line old (record {
      devices = c.self.inside.devices.items;
      lines =
          c.self.inside.lines.items;
      names = c.add_name.new.names;
      nodes = c.add_nodes.new.seen;
      own_equations =
          c.self.inside.own_equations;
      own_unknowns = c.self.inside.own_unknowns;
    }) (device ∷ []))
    failed.0 c.in_err-add_nodes.field-0.0 failed.2
    (nodes-fault g.F.Field.modulus old device (see_nodes c.self.inside.nodes
    (map string_bytes c.deref-2.result.now)) c.in_err-add_nodes.field-0.0 c.requires.circuit fresh
    (λ i. see_nodes (ap (λ (parts : CircuitParts). parts.nodes) c.self.view_is i) (nodes i)) c.in_err-add_nodes.ensures.full))

pub returns-in_err-take_room-clause-added : goal.returns-in_err-take_room-clause-added
returns-in_err-take_room-clause-added g c =
    let failed = err_from_is_err_and c.from_residual-in_err-take_room.result c.from_residual-in_err-take_room.ensures.1 in
    let old = c.args.self.now in
    let device = c.args.device in
    let name : c.deref.result.now ≡ device.name = c.deref.ensures ∙ ap (λ (d : Device). d.name) c.device.view_is in
    let nodes : map string_bytes c.deref-2.result.now ≡ device.nodes = ap (map string_bytes) c.deref-2.ensures.value
    ∙ ap (λ (d : Device). d.nodes) c.device.view_is in
    let fresh : has_name old.names device.name ≡ false =
    (λ i. has_name (sym (ap (λ (parts : CircuitParts). parts.names) c.self.view_is) i) (sym name i))
    ∙ c.in_ok-add_name.ensures.0 in
    let middle : CircuitParts = record {
      devices = c.self.inside.devices.items;
      lines = c.self.inside.lines.items;
      names =
          c.add_name.new.names;
      nodes = c.add_nodes.new.seen;
      own_equations = c.self.inside.own_equations;
      own_unknowns =
          c.self.inside.own_unknowns;
    } in
    let seen : middle.nodes ≡ see_nodes old.nodes device.nodes = c.in_ok-add_nodes.ensures.added
    ∙ (λ i. see_nodes (ap (λ (parts : CircuitParts). parts.nodes) c.self.view_is i) (nodes i)) in
    rw failed.1
    (fault_answers (place_rule old.devices device) (PutsLast c.args.line old c.take_room.new.self (device ∷ []))
    failed.0 c.in_err-take_room.field-0.0 failed.2
    (room-fault g.F.Field.modulus old device middle c.take_room.new.self c.device.inside.kind c.in_err-take_room.field-0.0 c.requires.circuit fresh seen
    (ap (λ (parts : CircuitParts). parts.own_equations) c.self.view_is) (ap (λ (parts : CircuitParts). parts.own_unknowns) c.self.view_is)
    (ap (λ (d : Device). d.kind) c.device.view_is) c.in_err-take_room.ensures.taken))

pub returns-clause-circuit : goal.returns-clause-circuit
returns-clause-circuit g c =
    let old = c.args.self.now in
    let device = c.args.device in
    let name : c.deref.result.now ≡ device.name = c.deref.ensures ∙ ap (λ (d : Device). d.name) c.device.view_is in
    let nodes : map string_bytes c.deref-2.result.now ≡ device.nodes = ap (map string_bytes) c.deref-2.ensures.value
    ∙ ap (λ (d : Device). d.nodes) c.device.view_is in
    let fresh : has_name old.names device.name ≡ false =
    (λ i. has_name (sym (ap (λ (parts : CircuitParts). parts.names) c.self.view_is) i) (sym name i))
    ∙ c.in_ok-add_name.ensures.0 in
    let middle : CircuitParts = record {
      devices = c.self.inside.devices.items;
      lines = c.self.inside.lines.items;
      names =
          c.add_name.new.names;
      nodes = c.add_nodes.new.seen;
      own_equations = c.self.inside.own_equations;
      own_unknowns =
          c.self.inside.own_unknowns;
    } in
    let seen : middle.nodes ≡ see_nodes old.nodes device.nodes = c.in_ok-add_nodes.ensures.added
    ∙ (λ i. see_nodes (ap (λ (parts : CircuitParts). parts.nodes) c.self.view_is i) (nodes i)) in
    let named : middle.names ≡ old.names ++ device.name ∷ [] = c.in_ok-add_name.ensures.1
    ∙ (λ i. ap (λ (parts : CircuitParts). parts.names) c.self.view_is i ++ name i ∷ []) in
    let new : CircuitParts = record {
      devices = c.push-2.new.self.items;
      lines = c.push.new.self.items;
      names =
          c.self-2.inside.names;
      nodes = c.self-2.inside.nodes;
      own_equations =
          c.self-2.inside.own_equations;
      own_unknowns = c.self-2.inside.own_unknowns;
    } in
    counted g.F.Field.modulus old middle c.take_room.new.self new device c.device.inside.kind c.requires.circuit c.requires.device fresh
    (ap (λ (d : Device). d.kind) c.device.view_is)
    (ap (λ (parts : CircuitParts). parts.own_equations) c.self.view_is) (ap (λ (parts : CircuitParts). parts.own_unknowns) c.self.view_is)
    named seen c.in_ok-take_room.ensures.taken
    (ap (λ (parts : CircuitParts). parts.names) c.self-2.view_is) (ap (λ (parts : CircuitParts). parts.nodes) c.self-2.view_is)
    (ap (λ (parts : CircuitParts). parts.own_equations) c.self-2.view_is) (ap (λ (parts : CircuitParts). parts.own_unknowns) c.self-2.view_is)
    (c.in_ok-push-2.ensures.items ∙ ap (λ (parts : CircuitParts). parts.devices ++ device ∷ []) c.self-2.view_is
    ∙ ap (λ (parts : CircuitParts). parts.devices ++ device ∷ []) c.in_ok-take_room.ensures.taken.0
    ∙ ap (λ (parts : CircuitParts). parts.devices ++ device ∷ []) c.self.view_is)

pub returns-clause-added : goal.returns-clause-added
returns-clause-added g c =
    let old = c.args.self.now in
    let device = c.args.device in
    let name : c.deref.result.now ≡ device.name = c.deref.ensures ∙ ap (λ (d : Device). d.name) c.device.view_is in
    let nodes : map string_bytes c.deref-2.result.now ≡ device.nodes = ap (map string_bytes) c.deref-2.ensures.value
    ∙ ap (λ (d : Device). d.nodes) c.device.view_is in
    let fresh : has_name old.names device.name ≡ false =
    (λ i. has_name (sym (ap (λ (parts : CircuitParts). parts.names) c.self.view_is) i) (sym name i))
    ∙ c.in_ok-add_name.ensures.0 in
    let middle : CircuitParts = record {
      devices = c.self.inside.devices.items;
      lines = c.self.inside.lines.items;
      names =
          c.add_name.new.names;
      nodes = c.add_nodes.new.seen;
      own_equations = c.self.inside.own_equations;
      own_unknowns =
          c.self.inside.own_unknowns;
    } in
    let seen : middle.nodes ≡ see_nodes old.nodes device.nodes = c.in_ok-add_nodes.ensures.added
    ∙ (λ i. see_nodes (ap (λ (parts : CircuitParts). parts.nodes) c.self.view_is i) (nodes i)) in (
      counted-kept g.F.Field.modulus old middle c.take_room.new.self device c.device.inside.kind c.requires.circuit fresh
          (ap (λ (d : Device). d.kind) c.device.view_is)
          (ap (λ (parts : CircuitParts). parts.own_equations) c.self.view_is) (ap (λ (parts : CircuitParts). parts.own_unknowns) c.self.view_is)
          seen c.in_ok-take_room.ensures.taken,
      (
        c.in_ok-push-2.ensures.items ∙ ap (λ (parts : CircuitParts). parts.devices ++ device ∷ []) c.self-2.view_is
            ∙ ap (λ (parts : CircuitParts). parts.devices ++ device ∷ []) c.in_ok-take_room.ensures.taken.0
            ∙ ap (λ (parts : CircuitParts). parts.devices ++ device ∷ []) c.self.view_is,
        c.in_ok-push.ensures.items ∙ ap (λ (parts : CircuitParts). parts.lines ++ c.args.line ∷ []) c.self-2.view_is
            ∙ ap (λ (parts : CircuitParts). parts.lines ++ c.args.line ∷ []) c.in_ok-take_room.ensures.taken.0
            ∙ ap (λ (parts : CircuitParts). parts.lines ++ c.args.line ∷ []) c.self.view_is,
      ),
    )
