use Rattle.sparse_t.specs.Incidences.{touches}
use Rattle.ccf_builder.specs.Matrices.{PrintsPattern}
use Rattle.ccf_builder.proofs.matrices.symbols_of.Given as goal

abbrev pub invariant-loop-row : goal.invariant-loop-row
invariant-loop-row l = PrintsPattern l.row l.pattern.width (touches l.pattern) l.rows.items
