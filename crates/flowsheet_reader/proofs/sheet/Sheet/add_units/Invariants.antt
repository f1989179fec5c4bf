use Rattle.std.proofs.Common.{◌≡◌, length, map, drop}
use Rattle.toml.specs.View.{view}
use Rattle.flowsheet_reader.specs.Models.{units_in}
use Rattle.flowsheet_reader.specs.Reached.{IsKept, Keeps}
use Rattle.flowsheet_reader.specs.Sheets.{Sheet}
use Rattle.flowsheet_reader.proofs.sheet.Sheet.add_units.Given as goal

abbrev pub invariant-loop-place : goal.invariant-loop-place
invariant-loop-place g l = record {
  kept : IsKept g.F.Field.modulus l.self;
  count : length l.self.units ≡ l.place;
  grown : (sheet : Sheet) → Keeps g.F.Field.modulus l.fn.self sheet → (now : Sheet)
      × (units_in g.F.Field.modulus sheet (map view l.items) ≡ units_in g.F.Field.modulus now (map view (drop l.place l.items)))
      × Keeps g.F.Field.modulus l.self now;
}
