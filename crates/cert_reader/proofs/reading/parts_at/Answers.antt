use Rattle.std.proofs.Common.{arith}
use Rattle.std.specs.Prelude.{codes}
use Rattle.cert_reader.proofs.Short.{tail_short}
use Rattle.cert_reader.proofs.reading.parts_at.Goals as goal

pub blocks_at-requires-clause-short : goal.blocks_at-requires-clause-short
blocks_at-requires-clause-short c = omega (
  arith,
  c.requires.short,
  tail_short
      (codes "first") c.args.shape c.args.line c.args.bytes.now
      (c.in_ok-first.first, c.in_ok-first.rest.now) c.requires.shape c.in_ok-first.ensures,
)
