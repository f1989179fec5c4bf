use Rattle.std.proofs.Common.{◌≡◌, ◌<◌, not, map, ap, ◌∙◌, arith}
use Rattle.std.specs.List.{prefix_len}
use Rattle.std.specs.Simd.Lanes.{mask_l, chunk}
use Rattle.std.proofs.lemmas.Simd.{length-chunk, trailing_mask_l, none_from_empty_mask, run_in_chunk_fails, run_in_chunk_stops}
use lib.Count.{count_trailing_zeros}
use Rattle.line_lexer.proofs.LaneLaws.{some_lane}
use Rattle.line_lexer.proofs.scan.first_marked.Goals as goal

pub returns-then-marks-eq0 : goal.returns-then-marks-eq0
returns-then-marks-eq0 g c =
    none_from_empty_mask g.T.ByteTest.holds c.args.bytes.now c.args.place g.row.N 0 c.requires.within (omega (arith, c.marks-marks.ensures))

pub returns : goal.returns
returns g c =
    let test = g.T.ByteTest.holds in
    let bytes = c.args.bytes.now in
    let place = c.args.place in
    let lanes = chunk place g.row.N bytes in
    let long = length-chunk place g.row.N bytes c.requires.within in
    let some : 0 < mask_l (map test lanes) = omega (arith, c.marks-marks.ensures) in
    let counted : count_trailing_zeros 64 c.marks-marks.result ≡ prefix_len (λ byte. not (test byte)) lanes =
    ap (count_trailing_zeros 64) c.marks-marks.ensures ∙ trailing_mask_l test 64 lanes (omega arith) some in
    let short : count_trailing_zeros 64 c.marks-marks.result < g.row.N = omega (arith, counted, long, some_lane test lanes some) in (
      omega (arith, short),
      run_in_chunk_stops test bytes place g.row.N _ 0 c.requires.within counted short,
      run_in_chunk_fails test bytes place g.row.N _ 0 c.requires.within counted,
    )
