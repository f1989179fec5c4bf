use Rattle.repair_checker.proofs.Levels.{ReachedSoFar}
use Rattle.repair_checker.proofs.checking.show_levels.Given as goal

abbrev pub invariant-loop-level : goal.invariant-loop-level
invariant-loop-level g l = ReachedSoFar g.F.Field.modulus l.model l.costs l.repair l.level-index
