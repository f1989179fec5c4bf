use Rattle.std.proofs.Common.{refl, arith}
use Rattle.residue_theory.proofs.examples.primes_at_examples.Goals as goal

pub returns-clause-fails : goal.returns-clause-fails
returns-clause-fails c prime = prime.no_divisor 3 (omega arith) (omega arith) refl
