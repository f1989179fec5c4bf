use Rattle.std.proofs.Common.{arith}
use Rattle.residue_field.specs.Modulus.{modulus_of}
use Rattle.cert_reader.proofs.Short.{fields_short}
use Rattle.cert_reader.proofs.reading.certificate_at.Goals as goal

pub body_at-requires-clause-short : goal.body_at-requires-clause-short
body_at-requires-clause-short c = omega (
  arith,
  c.requires,
  fields_short 1 2 c.args.bytes.now (c.in_ok-version.version, c.in_ok-version.from_field.now)
      (modulus_of c.in_ok-field.field, c.in_ok-field.from_kind.now) c.in_ok-version.ensures c.in_ok-field.ensures,
)

pub body_at-requires-in-Large-clause-short : goal.body_at-requires-in-Large-clause-short
body_at-requires-in-Large-clause-short c = omega (
  arith,
  c.requires,
  fields_short 1 2 c.args.bytes.now (c.in_ok-version.version, c.in_ok-version.from_field.now)
      (modulus_of c.in_ok-field.field, c.in_ok-field.from_kind.now) c.in_ok-version.ensures c.in_ok-field.ensures,
)
