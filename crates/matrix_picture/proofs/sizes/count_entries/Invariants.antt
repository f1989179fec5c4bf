use Rattle.std.proofs.Common.{◌≡◌, ◌+◌, length, take}
use Rattle.std.specs.List.{sum_by}
use Rattle.port_io.specs.Causes.{shown}
use Rattle.matrix_picture.proofs.sizes.count_entries.Given as goal

abbrev pub invariant-loop-row : goal.invariant-loop-row
invariant-loop-row g l = l.count ≡ shown (l.before + sum_by length (take l.row-index l.rows))
