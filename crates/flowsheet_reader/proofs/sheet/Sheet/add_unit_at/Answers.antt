use Rattle.std.proofs.Common.{◌+◌, length, ap, sym, ◌∙◌}
use Rattle.refusals.specs.declared.Place.TheVariants.{Unit as UnitPlace}
use Rattle.toml.specs.View.{view}
use Rattle.document_values.specs.Chains.{at}
use Rattle.flowsheet_reader.specs.Models.{unit_at}
use Rattle.flowsheet_reader.specs.Units.{add_unit}
use Rattle.flowsheet_reader.proofs.Starting.{grows-at}
use Rattle.flowsheet_reader.proofs.sheet.Sheet.add_unit_at.Goals as goal

pub returns-clause-added : goal.returns-clause-added
returns-clause-added g c =
    grows-at g.F.Field.modulus c.args.self.now c.add_unit.new.self (UnitPlace c.args.number) c.add_unit.result c.at_or_memory.result
    (λ sheet. add_unit g.F.Field.modulus sheet (view c.args.value.now)) (λ sheet. unit_at g.F.Field.modulus sheet
    (view c.args.value.now)) c.at_or_memory.ensures
    (λ sheet keeps. ap (λ n. at (UnitPlace n) (add_unit g.F.Field.modulus sheet (view c.args.value.now)))
    (ap (λ names. length names + 1) (sym keeps.units) ∙ sym c.requires.number))
    c.add_unit.ensures.added
