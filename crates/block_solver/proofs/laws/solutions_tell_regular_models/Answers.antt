use Rattle.block_solver.proofs.RegularAnswers.{solutions-told}
use Rattle.block_solver.proofs.laws.solutions_tell_regular_models.Goals as goal

pub returns : goal.returns
returns g c = solutions-told g.F.Field.number g.F.Field.modulus
