use Rattle.residue_theory.proofs.Primes.{prime_2147483647}
use Rattle.residue_theory.proofs.prime_below_thirty_one_bits.Goals as goal

pub returns : goal.returns
returns c = prime_2147483647
