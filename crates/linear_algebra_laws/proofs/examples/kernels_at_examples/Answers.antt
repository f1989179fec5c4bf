use Rattle.std.proofs.Common.{arith}
use Rattle.residue_theory.specs.Sets.{everything}
use Rattle.linear_algebra_laws.proofs.ExampleFacts.{one_and_less_one, ones-combine}
use Rattle.linear_algebra_laws.proofs.examples.kernels_at_examples.Goals as goal

pub returns-clause-fails : goal.returns-clause-fails
returns-clause-fails c same = omega (arith, same.forward everything one_and_less_one ones-combine 0 (omega arith))
