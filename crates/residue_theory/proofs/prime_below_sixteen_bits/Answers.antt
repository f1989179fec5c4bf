use Rattle.residue_theory.proofs.Primes.{prime_65521}
use Rattle.residue_theory.proofs.prime_below_sixteen_bits.Goals as goal

pub returns : goal.returns
returns c = prime_65521
