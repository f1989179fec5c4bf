use Rattle.std.proofs.Common.{refl, arith}
use Rattle.std.proofs.lemmas.Simd.{zip2_splat, zip2_of_maps}
use Rattle.line_lexer.specs.Tokens.{is_blank}
use Rattle.line_lexer.proofs.LaneLaws.{masked}
use Rattle.line_lexer.proofs.token.BlankLaneTest.marks.Goals as goal

pub returns : goal.returns
returns g c =
    let lanes = c.args.lanes in
    let long = c.fits-lanes.0 in
    masked _ is_blank lanes _ (omega arith) c.fits-lanes.1
    (zip2_of_maps _ _ _ lanes (zip2_splat _ lanes g.row.N 32 long) (zip2_splat _ lanes g.row.N 9 long)) refl
