use Rattle.std.proofs.Common.{◌≡◌, ◌<◌, All, length, get_or, refl, sym, ap, subst, ◌∙◌, arith}
use Rattle.term_model.specs.Putting.{IsPlaced}
use Rattle.term_model.proofs.Lists.{all_at}
use Rattle.netlist_devices.specs.Circuits.{IsDevice, CircuitParts}
use Rattle.netlist_devices.specs.EquationNames.{equations_of, unknowns_of}
use Rattle.netlist_reader.specs.Numbers.{HasDevicePlaces, Numbered, NumbersNodes}
use Rattle.netlist_reader.specs.Putting.{put_by}
use Rattle.netlist_reader.proofs.Forms.{forms}
use Rattle.netlist_reader.proofs.Numbering.{numbers_nodes}
use Rattle.netlist_reader.proofs.Placed.{all-placed}
use Rattle.netlist_reader.proofs.Steps.{sourced, is_new, next_says}
use Rattle.netlist_reader.proofs.building.put_devices.Goals as goal

pub put_device-requires : goal.put_device-requires
put_device-requires g c κs lives =
    let p = g.F.Field.modulus in
    let devices = c.args.circuit.now.devices in
    let i = c.loop-k.k in
    let d = c.index.result.now in
    let same = ap (λ (parts : CircuitParts). parts.devices) c.circuit.view_is in
    let within : i < length devices = omega (arith, c.loop-k-test.true, c.len-k-end.ensures, ap length same) in
    let is : d ≡ get_or devices i d = c.index.ensures ∙ ap (λ all. get_or all i d) same in
    let circuit = c.requires.1.1.0 in
    let are = c.requires.1.1.1.0 in
    let fine : IsDevice p d = subst (IsDevice p) (sym is) (circuit.devices i d within) in
    let equations = c.loop-k.invariant.equations ∙ c.requires.1.1.1.1.0 in
    let unknowns = c.loop-k.invariant.unknowns ∙ c.requires.1.1.1.1.1.0 in
    let placed = all-placed devices i d within is (sourced p devices circuit.distinct are i d within is) (put_by p d.kind d)
    (forms p d g.met.F.Field.odd d.kind refl fine.nodes_wanted) in (
      lives,
      (
        equations ∙ sym (ap (λ (names : Numbered). names.equations) c.requires.1.0),
        (
          unknowns ∙ sym (ap (λ (names : Numbered). names.unknowns) c.requires.1.0),
          (
            subst NumbersNodes (sym c.requires.1.0) (numbers_nodes devices),
            (
              fine,
              (
                subst (λ names. HasDevicePlaces names d c.in_ok-places.places) (sym c.requires.1.0) (c.in_ok-places.ensures d is),
                subst (λ all. All (IsPlaced all c.loop-k.model.unknowns) (put_by p d.kind d)) (sym equations)
                    (subst (λ all. All (IsPlaced (equations_of devices) all) (put_by p d.kind d)) (sym unknowns)
                    (all_at (IsPlaced (equations_of devices) (unknowns_of devices)) (put_by p d.kind d) placed)),
              ),
            ),
          ),
        ),
      ),
    )

pub want_of_memory-requires : goal.want_of_memory-requires
want_of_memory-requires g c =
    let devices = c.args.circuit.now.devices in
    let i = c.loop-k.k in
    let d = c.index.result.now in
    let same = ap (λ (parts : CircuitParts). parts.devices) c.circuit.view_is in
    let within : i < length devices = omega (arith, c.loop-k-test.true, c.len-k-end.ensures, ap length same) in
    let is : d ≡ get_or devices i d = c.index.ensures ∙ ap (λ all. get_or all i d) same in
    c.in-Err.ensures.refused _ c.loop-k.invariant.says
    (is_new g.F.Field.modulus devices c.requires.1.1.0.distinct c.requires.1.1.1.0 i d within is)

pub loop-k-preserved : goal.loop-k-preserved
loop-k-preserved g c =
    let p = g.F.Field.modulus in
    let devices = c.args.circuit.now.devices in
    let i = c.loop-k.k in
    let d = c.index.result.now in
    let same = ap (λ (parts : CircuitParts). parts.devices) c.circuit.view_is in
    let within : i < length devices = omega (arith, c.loop-k-test.true, c.len-k-end.ensures, ap length same) in
    let is : d ≡ get_or devices i d = c.index.ensures ∙ ap (λ all. get_or all i d) same in
    let distinct = c.requires.1.1.0.distinct in
    let are = c.requires.1.1.1.0 in
    record {
      equations = c.in_default.ensures.equations ∙ c.loop-k.invariant.equations;
      unknowns = c.in_default.ensures.unknowns ∙ c.loop-k.invariant.unknowns;
      says = next_says p devices distinct are i d within is c.put_device.new.model
          (c.in_default.ensures.says _ c.loop-k.invariant.says (is_new p devices distinct are i d within is));
    }
