use Rattle.std.proofs.Common.{ℕ, ◌<◌, get_or}
use Rattle.cert_text.specs.Ranges.{IsCcf}
use Rattle.repair_checker.specs.declared.repair.Level.{Level}
use Rattle.cheapest_repairs.proofs.forms.are_in_form.Given as goal

abbrev pub invariant-loop-level : goal.invariant-loop-level
invariant-loop-level g l = (k : ℕ) (d : Level g.row.F.Denot) → k < l.level-index → IsCcf g.F.Field.modulus (get_or l.levels k d).ccf
