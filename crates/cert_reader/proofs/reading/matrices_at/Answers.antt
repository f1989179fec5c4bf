use Rattle.std.proofs.Common.{◌<◌, ◌^◌, arith}
use Rattle.std.specs.Prelude.{codes}
use Rattle.cert_text.specs.Contents.{numbered_rows}
use Rattle.cert_reader.proofs.Short.{matrix_short, pattern_short}
use Rattle.cert_reader.proofs.reading.matrices_at.Goals as goal

pub parts_at-requires-clause-short : goal.parts_at-requires-clause-short
parts_at-requires-clause-short g c =
    let modulus = g.F.Field.modulus in
    let number = g.F.Field.number in
    let small : modulus < 2 ^ 32 = g.met.F.Field.small in
    let shape = c.args.shape in
    omega (
      arith,
      c.requires.short,
      matrix_short modulus (codes "S") shape.q_rows shape.q_rows c.args.line c.args.bytes.now
          (numbered_rows number c.in_ok-s.s.items, c.in_ok-s.from_u.now) small
          (omega (arith, c.requires.shape.q_rows)) c.in_ok-s.ensures,
      matrix_short modulus (codes "U") shape.q_rows shape.q_rows _ c.in_ok-s.from_u.now
          (numbered_rows number c.in_ok-u.u.items, c.in_ok-u.from_p.now) small
          (omega (arith, c.requires.shape.q_rows)) c.in_ok-u.ensures,
      matrix_short modulus (codes "P") shape.columns shape.q_rows _ c.in_ok-u.from_p.now
          (numbered_rows number c.in_ok-p.p.items, c.in_ok-p.from_t.now) small c.requires.shape.columns c.in_ok-p.ensures,
      pattern_short (codes "T") shape.columns shape.t_rows _ c.in_ok-p.from_t.now
          (c.in_ok-t.t.items, c.in_ok-t.from_parts.now) c.requires.shape.columns c.in_ok-t.ensures,
    )

pub parts_at-requires-clause-room : goal.parts_at-requires-clause-room
parts_at-requires-clause-room g c = omega (arith, c.requires.room, c.requires.shape.q_rows, c.requires.shape.t_rows)
