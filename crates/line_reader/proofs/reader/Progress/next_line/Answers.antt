use Rattle.std.proofs.Common.{◌+◌, ◌∷◌, ◌++◌, take, sym, ap, ◌∙◌}
use Rattle.std.proofs.lemmas.List.{take_rest}
use Rattle.line_reader.proofs.Cuts.{feed-before, feed-none, feed-cut}
use Rattle.line_reader.proofs.reader.Progress.next_line.Goals as goal

pub returns-in-Some-clause-cut : goal.returns-in-Some-clause-cut
returns-in-Some-clause-cut g c =
    feed-cut c.args.piece.now c.in-Some.end (sym c.in-Some.ensures)
    ∙ ap (λ rest. take c.in-Some.end c.args.piece.now ++ 10 ∷ rest) (sym (take_rest c.args.piece.now (c.in-Some.end + 1)))

pub returns-in-Some-clause-unended : goal.returns-in-Some-clause-unended
returns-in-Some-clause-unended g c = feed-before c.args.piece.now c.in-Some.end (sym c.in-Some.ensures)

pub returns-in-None-clause-last : goal.returns-in-None-clause-last
returns-in-None-clause-last g c = λ unrefused. feed-none c.args.piece.now (sym c.in-None.ensures)
