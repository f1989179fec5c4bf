use Rattle.std.proofs.Common.{map, ap, refl, sym, subst, ◌∙◌}
use Rattle.std.specs.String.{string_bytes}
use Rattle.mixed_model.specs.Names.{IsNameList}
use Rattle.term_model.proofs.Blank.{blank_says}
use Rattle.netlist_reader.proofs.NameLists.{equations-listed, unknowns-listed}
use Rattle.netlist_reader.proofs.building.build.Goals as goal

pub add_unknowns-requires-clause-names : goal.add_unknowns-requires-clause-names
add_unknowns-requires-clause-names g c =
    subst IsNameList (sym (ap (map string_bytes) c.deref.ensures.value ∙ c.in_ok-names_on.ensures))
    (unknowns-listed g.F.Field.modulus c.args.circuit.now c.requires.circuit)

pub add_equations-requires-clause-names : goal.add_equations-requires-clause-names
add_equations-requires-clause-names g c =
    subst IsNameList (sym (ap (map string_bytes) c.deref-2.ensures.value ∙ c.in_ok-names_on-2.ensures))
    (equations-listed g.F.Field.modulus c.args.circuit.now c.requires.circuit)

pub put_devices-requires : goal.put_devices-requires
put_devices-requires g c κs lives = (
  lives,
  (
    refl,
    (
      c.requires.circuit,
      (
        c.requires.sourced,
        (
          c.in_ok-add_equations.ensures.equations ∙ ap (map string_bytes) c.deref-2.ensures.value ∙ c.in_ok-names_on-2.ensures,
          (
            c.in_ok-add_equations.ensures.unknowns ∙ c.in_ok-add_unknowns.ensures.unknowns ∙ ap (map string_bytes) c.deref.ensures.value
                ∙ c.in_ok-names_on.ensures,
            blank_says g.F.Field.modulus c.add_equations.new.model c.in_ok-add_equations.ensures.blank,
          ),
        ),
      ),
    ),
  ),
)

pub returns : goal.returns
returns g c = record {
  is_model = c.is_model.ensures;
  equations_are = c.in_ok-put_devices.ensures.equations ∙ c.in_ok-add_equations.ensures.equations
      ∙ ap (map string_bytes) c.deref-2.ensures.value ∙ c.in_ok-names_on-2.ensures;
  unknowns_are = c.in_ok-put_devices.ensures.unknowns ∙ c.in_ok-add_equations.ensures.unknowns
      ∙ c.in_ok-add_unknowns.ensures.unknowns ∙ ap (map string_bytes) c.deref.ensures.value
      ∙ c.in_ok-names_on.ensures;
  constants_are = c.in_ok-put_devices.ensures.says.constants;
  symbols_are = c.in_ok-put_devices.ensures.says.symbols;
}
