use Rattle.std.proofs.Common.{arith}
use Rattle.std.specs.Prelude.{codes}
use Rattle.limits.specs.Limits.{input_limit}
use Rattle.cert_reader.proofs.LineKinds.{Spells-kind, Spells-echo}
use Rattle.cert_reader.proofs.Short.{spells_short, count_short}
use Rattle.cert_reader.proofs.reading.body_at.Goals as goal

pub contents_at-requires-clause-short : goal.contents_at-requires-clause-short
contents_at-requires-clause-short g c = omega (
  arith,
  c.requires.short,
  spells_short Spells-kind c.args.line c.args.bytes.now (c.in_ok-kind.kind, c.in_ok-kind.from_size.now) c.in_ok-kind.ensures,
  count_short (codes "length ") input_limit _ c.in_ok-kind.from_size.now
      (c.in_ok-size.size, c.in_ok-size.from_echo.now) (omega arith) c.in_ok-size.ensures.number,
  spells_short (Spells-echo c.in_ok-size.size) _ c.in_ok-size.from_echo.now (c.in_ok-echo.echo.now, c.in_ok-echo.from_shape.now) c.in_ok-echo.ensures,
)
