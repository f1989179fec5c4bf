-- The fields that the words name.
use Rattle.std.proofs.Common.{◌^◌, ◌<◌, lit<}
use Rattle.residue_theory.specs.Residues.{IsPrime}
use Rattle.residue_theory.proofs.Primes.{prime_2147483647, prime_65521}
use Rattle.residue_field.specs.declared.field_name.FieldName.{FieldName}
use Rattle.residue_field.specs.declared.field_name.FieldName.TheVariants.{Large, Small}
use Rattle.residue_field.specs.Modulus.{modulus_of}
use Rattle.report_cli.specs.Fields.{digits}

-- both fields are of residues modulo a prime, whose numbers have few digits
pub prime-of : (field : FieldName) → IsPrime (modulus_of field)
prime-of Small = prime_65521
prime-of Large = prime_2147483647

pub low-of : (field : FieldName) → modulus_of field < 10 ^ digits field
low-of Small = lit< tt
low-of Large = lit< tt

pub some-of : (field : FieldName) → 0 < digits field
some-of Small = lit< tt
some-of Large = lit< tt

pub odd-of : (field : FieldName) → 2 < modulus_of field
odd-of Small = lit< tt
odd-of Large = lit< tt
