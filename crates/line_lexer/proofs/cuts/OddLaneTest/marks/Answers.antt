use Rattle.std.proofs.Common.{cond, ltb, refl, arith}
use Rattle.std.proofs.lemmas.Simd.{zip2_splat, zip2_splat_left, zip2_of_maps}
use Rattle.line_lexer.specs.Tokens.{is_odd}
use Rattle.line_lexer.proofs.LaneLaws.{masked}
use Rattle.line_lexer.proofs.cuts.OddLaneTest.marks.Goals as goal

pub returns : goal.returns
returns g c =
    let lanes = c.args.lanes in
    let long = c.fits-lanes.0 in
    masked _ is_odd lanes _ (omega arith) c.fits-lanes.1
    (zip2_of_maps _ _ _ lanes
    (zip2_of_maps _ _ _ lanes (zip2_splat _ lanes g.row.N 35 long)
    (zip2_of_maps _ _ _ lanes (zip2_splat _ lanes g.row.N 32 long) (zip2_splat _ lanes g.row.N 9 long)))
    (zip2_splat_left (λ a b. cond (ltb a b) 255 0) 126 g.row.N lanes long)) refl
