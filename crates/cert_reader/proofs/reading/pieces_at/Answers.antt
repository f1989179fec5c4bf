use Rattle.std.proofs.Common.{arith}
use Rattle.std.specs.Prelude.{codes}
use Rattle.limits.specs.Limits.{column_limit}
use Rattle.cert_reader.proofs.LineKinds.{Spells-shape}
use Rattle.cert_reader.proofs.Short.{spells_short, count_short, pairs_short}
use Rattle.cert_reader.proofs.reading.pieces_at.Goals as goal

pub matrices_at-requires-clause-short : goal.matrices_at-requires-clause-short
matrices_at-requires-clause-short g c =
    let shape = c.in_ok-shape.shape in
    let fits = c.in_ok-shape.ensures.fits in
    omega (
      arith,
      c.requires.short,
      spells_short Spells-shape c.args.line c.args.bytes.now (shape, c.in_ok-shape.from_rank.now) c.in_ok-shape.ensures.shape,
      count_short (codes "rank ") column_limit _ c.in_ok-shape.from_rank.now
          (c.in_ok-rank.rank, c.in_ok-rank.from_base.now) (omega arith) c.in_ok-rank.ensures.number,
      pairs_short (codes "base") shape.q_rows shape.columns _ c.in_ok-rank.from_base.now
          (c.in_ok-base.base.items, c.in_ok-base.from_mates.now) fits.q_rows fits.columns c.in_ok-base.ensures,
      pairs_short (codes "match") shape.t_rows shape.columns _ c.in_ok-base.from_mates.now
          (c.in_ok-mates.mates.items, c.in_ok-mates.from_s.now) fits.t_rows fits.columns c.in_ok-mates.ensures,
    )
