use Rattle.std.proofs.Common.{◌≡◌, ◌%◌, refl, arith}
use Rattle.linear_algebra_laws.proofs.ExampleFacts.{one_and_less_one, ones-combine}
use Rattle.linear_algebra_laws.proofs.examples.independence_at_examples.Goals as goal

pub returns-clause-fails : goal.returns-clause-fails
returns-clause-fails c independent = (let zero : one_and_less_one 0 % 65521 ≡ 0 = independent one_and_less_one ones-combine 0 (omega arith) refl in omega arith)
