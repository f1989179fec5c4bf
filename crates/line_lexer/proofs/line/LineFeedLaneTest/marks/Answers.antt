use Rattle.std.proofs.Common.{refl, arith}
use Rattle.std.proofs.lemmas.Simd.{zip2_splat}
use Rattle.line_lexer.specs.Lines.{is_line_feed}
use Rattle.line_lexer.proofs.LaneLaws.{masked}
use Rattle.line_lexer.proofs.line.LineFeedLaneTest.marks.Goals as goal

pub returns : goal.returns
returns g c =
    let lanes = c.args.lanes in
    masked _ is_line_feed lanes _ (omega (arith, c.fits-lanes.0)) c.fits-lanes.1 (zip2_splat _ lanes g.row.N 10 c.fits-lanes.0) refl
