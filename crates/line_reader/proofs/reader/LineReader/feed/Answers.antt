use Rattle.std.proofs.Common.{◌++◌, ◌∷◌, [], ap, subst, ◌∙◌, append_assoc}
use Rattle.limits.specs.Limits.{input_limit}
use Rattle.line_reader.specs.Readings.{IsFed, reading}
use Rattle.line_reader.proofs.Cuts.{piece-taken, piece-within, piece-joined}
use Rattle.line_reader.proofs.reader.LineReader.feed.Goals as goal

pub loop-line-preserved : goal.loop-line-preserved
loop-line-preserved g c = record {
  ready = c.in_ok-take_line.ensures.ready;
  fed = λ text fed short.
      let before = c.loop-line.invariant.fed text fed short in
      let rest = c.loop-line.rest.now in
      let line = c.in-Some.line.now in
      let others = c.in-Some.others.now in
      let piece = c.args.piece.now in
      let new = c.take_line.new.self in
      let cut = c.in-Some.ensures.cut in
      let step = c.in_ok-take_line.ensures.fed (text ++ before.0)
      (piece-within before.0 rest line others piece before.1 cut text input_limit short) before.2 in (
        before.0 ++ line ++ 10 ∷ [],
        piece-taken before.0 rest line others piece before.1 cut,
        subst (IsFed g.R.LineFormat.rules g.R.LineFormat.has_read
            (reading new.format new.number new.line.items new.commented new.refused))
            (piece-joined text before.0 line) step,
      );
}

pub returns : goal.returns
returns g c = λ text fed short.
    let before = c.loop-line.invariant.fed text fed short in
    let new = c.take_part.new.self in
    subst (IsFed g.R.LineFormat.rules g.R.LineFormat.has_read (reading new.format new.number new.line.items new.commented new.refused))
    (append_assoc text before.0 c.loop-line.rest.now ∙ ap (λ bytes. text ++ bytes) before.1)
    (c.in_ok-take_part.ensures.fed (text ++ before.0) before.2)
