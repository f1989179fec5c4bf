use Rattle.mixed_layering.specs.Columns.{AreColumns}
use Rattle.mixed_layering.proofs.columns.column_origins.Given as goal

abbrev pub invariant-loop-unknown : goal.invariant-loop-unknown
invariant-loop-unknown l = AreColumns l.unknown l.split 0 l.origins.items

abbrev pub invariant-loop-equation : goal.invariant-loop-equation
invariant-loop-equation l = AreColumns l.unknowns l.split l.equation-index l.origins.items
